use Rattle.std.proofs.Common.{◌≡◌, List, ◌++◌, map}
use Rattle.predicates.specs.Placing.{AreAllPlaced}
use Rattle.query_eval.specs.Projecting.{projected_answer}
use Rattle.sql_model.specs.Scope.{InScope}
use Rattle.query_eval.proofs.projection.project_items.Given as goal

abbrev pub invariant-loop-pick : goal.invariant-loop-pick
invariant-loop-pick l = (scope : List InScope) → AreAllPlaced scope l.items
    → l.answers ++ map (projected_answer scope l.items) l.pick-iterator.rest.items ≡ map (projected_answer scope l.items) l.fn.picks
