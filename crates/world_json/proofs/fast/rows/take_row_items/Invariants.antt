use Rattle.std.proofs.Common.{◌≤◌, length}
use Rattle.std.specs.List.{AllByRecursion}
use Rattle.run_model.specs.TypedPackage.{TypedValues}
use Rattle.world_json.specs.Shape.{array_of, cell_of}
use Rattle.world_json.proofs.Taken.{ItemsSoFar}
use Rattle.world_json.proofs.fast.rows.take_row_items.Given as goal

abbrev pub invariant-rows : goal.invariant-rows
invariant-rows l = record {
  read : ItemsSoFar (array_of cell_of) 1 l.fn.reader l.found l.reader;
  shorter : length l.reader ≤ length l.fn.reader;
  typed : AllByRecursion TypedValues l.found;
}

abbrev pub decreases-rows : goal.decreases-rows
decreases-rows l = length l.reader
