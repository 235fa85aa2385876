use Rattle.std.proofs.Common.{◌≡◌, List, ◌++◌, drop, map}
use Rattle.group_eval.specs.inner.Columns.{IsKnown}
use Rattle.group_eval.specs.Evaluating.{item_values}
use Rattle.predicates.specs.Placing.{AreAllPlaced}
use Rattle.sql_model.specs.Scope.{InScope}
use Rattle.group_eval.proofs.grouping.values_of_items.Given as goal

abbrev pub invariant-loop-item : goal.invariant-loop-item
invariant-loop-item l = record {
  values : (scope : List InScope) → AreAllPlaced scope l.items
      → AreAllPlaced scope (drop l.item-index l.items)
      × (l.values ++ item_values scope (map (λ r. r.now) l.group) (drop l.item-index l.items) ≡ item_values scope (map (λ r. r.now) l.group) l.items);
  known : IsKnown (map (λ r. r.now) l.group) l.known;
}
