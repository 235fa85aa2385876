use Rattle.std.proofs.Common.{ℕ, ap, ◌∙◌, arith}
use Rattle.std.specs.Prelude.{replicate}
use Rattle.proc_core.specs.Types.{Null}
use Rattle.proc_core.proofs.Beginning.{none_yet}
use Rattle.proc_core.proofs.spawn.new_process.bind_arguments.Goals as goal

pub loop-left-init : goal.loop-left-init
loop-left-init c = record {
  slots = none_yet c.args.names.now c.args.arguments.now c.of_count-slots.result (c.of_count-slots.ensures ∙ ap (λ (n : ℕ). replicate n Null) c.len.ensures);
  within = omega arith;
}
