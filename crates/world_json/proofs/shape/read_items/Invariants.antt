use Rattle.std.specs.List.{AllByRecursion}
use Rattle.serde_json.specs.View.{items_view}
use Rattle.world_json.specs.Shape.{each}
use Rattle.world_json.proofs.Each.{IsSoFar}
use Rattle.world_json.proofs.shape.read_items.Given as goal

abbrev pub invariant-loop-value : goal.invariant-loop-value
invariant-loop-value g l = record {
  read : IsSoFar (each g.X.FromItem.of_item (items_view l.fn.items.items)) l.found (each g.X.FromItem.of_item (items_view l.value-iterator.rest.items));
  typed : AllByRecursion g.X.FromItem.typed l.found;
}
