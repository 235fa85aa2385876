use Rattle.std.proofs.Common.{◌≡◌, ◌+◌, ◌≤◌, drop, length, map}
use Rattle.run_model.specs.Core.{arguments_from}
use Rattle.proc_core.specs.Stands.{value_held}
use Rattle.proc_core.proofs.spawn.new_process.bind_arguments.Given as goal

abbrev pub invariant-loop-left : goal.invariant-loop-left
invariant-loop-left l = record {
  slots : l.slots ≡ map (value_held (arguments_from (l.left + 1) (drop l.left l.arguments))) l.names;
  within : l.left ≤ length l.arguments;
}

abbrev pub decreases-loop-left : goal.decreases-loop-left
decreases-loop-left l = l.left
