use Rattle.std.proofs.Common.{◌≡◌, ℕ, List, ◌++◌, drop}
use Rattle.sql_model.specs.Scope.{InScope, places_in}
use Rattle.group_eval.proofs.plan.column_places.Given as goal

abbrev pub invariant-loop-column : goal.invariant-loop-column
invariant-loop-column l = (scope : List InScope) (more : List ℕ) → drop l.fn.at l.places ≡ places_in scope l.columns ++ more
    → (drop l.at l.places ≡ places_in scope (drop l._column-index l.columns) ++ more)
    × (l.own ++ places_in scope (drop l._column-index l.columns) ≡ places_in scope l.columns)
