use Rattle.std.proofs.Common.{◌≡◌, ◌-◌}
use Rattle.package_codec.specs.Fields.{items_at, number_at}
use Rattle.std.specs.Int.{w8}
use Rattle.package_codec.proofs.Lists.{with_front}
use Rattle.package_codec.proofs.parts.table.decode_places.Given as goal

abbrev pub invariant-loop-turn : goal.invariant-loop-turn
invariant-loop-turn l = with_front l.places (items_at (number_at w8) (l.count - l._turn) l.cursor) ≡ items_at (number_at w8) l.count l.fn.cursor
