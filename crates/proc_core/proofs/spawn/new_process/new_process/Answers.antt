use Rattle.std.proofs.Common.{ℕ, refl, ap, ◌∙◌, None}
use Rattle.std.specs.Prelude.{replicate}
use Rattle.proc_core.proofs.Beginning.{begun}
use Rattle.proc_core.proofs.spawn.new_process.new_process.Goals as goal

pub returns : goal.returns
returns c = λ script.
    begun c.args.code.now.scope c.args.index script c.args.name c.args.arguments.now _ refl refl refl c.in_ok-variables.ensures
    (c.in_ok-closed_slots.ensures ∙ ap (λ (n : ℕ). replicate n None) c.len.ensures)
    (c.in_ok-empty_slots.ensures ∙ ap (λ (n : ℕ). replicate n None) c.len-2.ensures)
    (c.in_ok-empty_slots-2.ensures ∙ ap (λ (n : ℕ). replicate n None) c.len-3.ensures)
    refl c.new.ensures c.new-2.ensures refl
