use Rattle.std.proofs.Common.{◌≡◌, ◌++◌, take}
use Rattle.std.specs.List.{flat_map, AllByRecursion}
use Rattle.package_codec.proofs.codec.encode_items.Given as goal

abbrev pub invariant-loop-item : goal.invariant-loop-item
invariant-loop-item g l = record {
  bytes : l.to ≡ l.fn.to ++ flat_map g.X.Encode.spelling (take l.item-index l.items);
  typed : AllByRecursion g.X.Encode.typed (take l.item-index l.items);
}
