use Rattle.std.proofs.Common.{◌≡◌, map, take}
use Rattle.proc_core.specs.inner.SlotOutcome.{slot_outcome}
use Rattle.proc_core.proofs.outcome.outcomes_of.Given as goal

abbrev pub invariant-loop-process : goal.invariant-loop-process
invariant-loop-process l = l.outcomes.items ≡ map slot_outcome (take l.process-index l.processes)
