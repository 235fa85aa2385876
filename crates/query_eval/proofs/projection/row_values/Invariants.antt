use Rattle.std.proofs.Common.{◌≡◌, List, ◌++◌, drop}
use Rattle.predicates.specs.Placing.{AreAllPlaced}
use Rattle.query_eval.specs.Projecting.{values_over}
use Rattle.sql_model.specs.Scope.{InScope}
use Rattle.query_eval.proofs.projection.row_values.Given as goal

abbrev pub invariant-loop-placed : goal.invariant-loop-placed
invariant-loop-placed l = (scope : List InScope) → AreAllPlaced scope l.exprs
    → AreAllPlaced scope (drop l.placed-index l.exprs) × (l.values ++ values_over scope l.row (drop l.placed-index l.exprs) ≡ values_over scope l.row l.exprs)
