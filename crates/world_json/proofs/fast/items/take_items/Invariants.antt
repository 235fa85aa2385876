use Rattle.std.proofs.Common.{◌≤◌, length}
use Rattle.std.specs.List.{AllByRecursion}
use Rattle.world_json.proofs.Taken.{ItemsSoFar}
use Rattle.world_json.proofs.fast.items.take_items.Given as goal

abbrev pub invariant-items : goal.invariant-items
invariant-items g l = record {
  read : ItemsSoFar g.X.FromTokens.of_item g.X.FromTokens.levels l.fn.reader l.found l.reader;
  shorter : length l.reader ≤ length l.fn.reader;
  typed : AllByRecursion g.X.FromTokens.typed l.found;
}

abbrev pub decreases-items : goal.decreases-items
decreases-items g l = length l.reader
