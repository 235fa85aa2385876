use Rattle.std.proofs.Common.{◌≡◌, ℕ, List, ◌++◌, drop}
use Rattle.sql_model.specs.Refusals.{names_of_items}
use Rattle.sql_model.specs.Scope.{InScope, places_in}
use Rattle.query_eval.proofs.conditions.skip_items.Given as goal

abbrev pub invariant-loop-item : goal.invariant-loop-item
invariant-loop-item l = (scope : List InScope) (more : List ℕ) → drop l.fn.at l.places ≡ places_in scope (names_of_items l.items) ++ more
    → drop l.at l.places ≡ places_in scope (names_of_items (drop l.item-index l.items)) ++ more
