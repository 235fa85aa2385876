use Rattle.std.proofs.Common.{◌≡◌, ℕ, List, ◌++◌, map, drop}
use Rattle.predicates.specs.Placing.{AreAllPlaced}
use Rattle.sql_model.specs.Refusals.{names_of_items}
use Rattle.sql_model.specs.Scope.{InScope, places_in}
use Rattle.predicates.proofs.placed.placed_items.Given as goal

abbrev pub invariant-loop-item : goal.invariant-loop-item
invariant-loop-item l = record {
  exprs : map (λ p. p.expr) l.made ++ map (λ item. item.expr) (drop l.item-index l.items) ≡ map (λ item. item.expr) l.items;
  placed : (scope : List InScope) (more : List ℕ) → drop l.fn.at l.places ≡ places_in scope (names_of_items l.items) ++ more
      → (drop l.end l.places ≡ places_in scope (names_of_items (drop l.item-index l.items)) ++ more) × AreAllPlaced scope l.made;
}
