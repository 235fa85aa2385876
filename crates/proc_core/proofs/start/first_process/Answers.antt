use Rattle.std.proofs.Common.{rules, ◌≡◌, ℕ, List, [], ◌∷◌, ◌++◌, ◌∙◌, ap, map, subst, IfOk}
use Rattle.proc_core.specs.Types.{Instr, Text, Value}
use Rattle.run_model.specs.Core.{new_process}
use Rattle.proc_core.specs.Stands.{Holds}
use Rattle.proc_core.proofs.start.first_process.Goals as goal

pub returns : goal.returns
returns c =
    let all : c.items.result.now ≡ map Text c.args.words.now = search rules in
    subst (λ (l : List Value). IfOk c.new_process.result (λ r. (script : List Instr) → Holds c.args.code.now.scope 0 script r (new_process (0 ∷ []) script l))) all
    (subst (λ (n : List ℕ). IfOk c.new_process.result (λ r. (script : List Instr) → Holds c.args.code.now.scope 0 script r (new_process n script c.items.result.now)))
    (c.in_ok-push.ensures.ok ∙ ap (λ (l : List ℕ). l ++ 0 ∷ []) c.new-name.ensures) c.new_process.ensures)
