use Rattle.std.proofs.Common.{◌≡◌, ◌++◌, vec_len}
use Rattle.proc_core.specs.inner.SlotOutcome.{slot_outcomes}
use Rattle.proc_core.proofs.outcome.outcomes_from.Given as goal

abbrev pub invariant-loop-process : goal.invariant-loop-process
invariant-loop-process l = l.outcomes.items ++ slot_outcomes l.left.items ≡ slot_outcomes l.fn.processes.items

abbrev pub decreases-loop-process : goal.decreases-loop-process
decreases-loop-process l = vec_len l.left
