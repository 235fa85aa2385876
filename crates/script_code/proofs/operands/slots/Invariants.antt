use Rattle.std.proofs.Common.{length}
use Rattle.script_code.specs.Resolved.{Extends}
use Rattle.script_code.proofs.Resolving.{SlotsSo}
use Rattle.script_code.proofs.operands.slots.Given as goal

abbrev pub invariant-loop-rest : goal.invariant-loop-rest
invariant-loop-rest l = record { so : SlotsSo l.names l.wanted l.rest l.slots; keeps : Extends l.fn.names l.names }

abbrev pub decreases-loop-rest : goal.decreases-loop-rest
decreases-loop-rest l = length l.rest
