use Rattle.std.proofs.Common.{◌≡◌, ◌++◌}
use Rattle.proc_core.proofs.outcome.without_keys.Given as goal

abbrev pub invariant-loop-outcome : goal.invariant-loop-outcome
invariant-loop-outcome l = l.all ++ l.outcome-iterator.rest.items ≡ l.fn.outcomes.items
