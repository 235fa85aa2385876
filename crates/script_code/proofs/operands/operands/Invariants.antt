use Rattle.std.proofs.Common.{length}
use Rattle.script_code.specs.Resolved.{Extends}
use Rattle.script_code.proofs.Resolving.{OperandsSo}
use Rattle.script_code.proofs.operands.operands.Given as goal

abbrev pub invariant-loop-rest : goal.invariant-loop-rest
invariant-loop-rest l = record { so : OperandsSo l.names l.operands l.rest l.slotted; keeps : Extends l.fn.names l.names }

abbrev pub decreases-loop-rest : goal.decreases-loop-rest
decreases-loop-rest l = length l.rest
