use Rattle.std.proofs.Common.{◌≡◌, ◌++◌, take, length}
use Rattle.std.specs.Int.{w8, to_be_bytes}
use Rattle.std.specs.List.{flat_map}
use Rattle.package_codec.proofs.parts.table.encode_places.Given as goal

abbrev pub invariant-loop-place : goal.invariant-loop-place
invariant-loop-place l = l.to ≡ l.fn.to ++ (to_be_bytes w8 (length l.key) ++ flat_map (to_be_bytes w8) (take l.place-index l.key))
