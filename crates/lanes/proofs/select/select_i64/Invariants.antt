use Rattle.lanes.specs.Selection.{IsSelectedTo}
use Rattle.lanes.proofs.select.select_i64.Given as goal

abbrev pub invariant-loop-place : goal.invariant-loop-place
invariant-loop-place l = IsSelectedTo l.op l.column l.constant l.mask l.place
