use Rattle.std.proofs.Common.{length}
use Rattle.script_code.specs.Resolved.{KeepsAll}
use Rattle.script_code.proofs.Resolving.{InstrsSo}
use Rattle.script_code.proofs.resolve.instructions.Given as goal

abbrev pub invariant-loop-rest : goal.invariant-loop-rest
invariant-loop-rest l = record { so : InstrsSo l.scope l.script l.rest l.instructions; keeps : KeepsAll l.fn.scope l.scope }

abbrev pub decreases-loop-rest : goal.decreases-loop-rest
decreases-loop-rest l = length l.rest
