use Rattle.std.proofs.Common.{◌≡◌, ◌++◌, List}
use Rattle.predicates.specs.Placing.{AreAllPlaced}
use Rattle.query_eval.specs.Picking.{row_picks}
use Rattle.sql_model.specs.Scope.{InScope}
use Rattle.query_eval.proofs.single.picks_alone.Given as goal

abbrev pub invariant-loop-row : goal.invariant-loop-row
invariant-loop-row l = (scope : List InScope) → AreAllPlaced scope l.conds
    → l.picks ++ row_picks scope l.conds l.keep l.table l.row-iterator.rest.items ≡ row_picks scope l.conds l.keep l.table l.fn.rows
