use Rattle.std.specs.List.{AllByRecursion}
use Rattle.run_model.specs.TypedPackage.{TypedValues}
use Rattle.serde_json.specs.View.{items_view}
use Rattle.world_json.specs.Shape.{array_of, cell_of, each}
use Rattle.world_json.proofs.Each.{IsSoFar}
use Rattle.world_json.proofs.rows.read_row_items.Given as goal

abbrev pub invariant-loop-value : goal.invariant-loop-value
invariant-loop-value l = record {
  read : IsSoFar (each (array_of cell_of) (items_view l.fn.items.items)) l.found (each (array_of cell_of) (items_view l.value-iterator.rest.items));
  typed : AllByRecursion TypedValues l.found;
}
