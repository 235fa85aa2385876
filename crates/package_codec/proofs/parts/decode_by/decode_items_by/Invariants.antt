use Rattle.std.proofs.Common.{◌≡◌, ◌-◌}
use Rattle.package_codec.specs.Fields.{items_at}
use Rattle.package_codec.proofs.Lists.{with_front}
use Rattle.package_codec.proofs.parts.decode_by.decode_items_by.Given as goal

abbrev pub invariant-loop-turn : goal.invariant-loop-turn
invariant-loop-turn g l =
    with_front l.items (items_at (g.X.DecodeBy.reading l.by) (l.count - l._turn) l.cursor) ≡ items_at (g.X.DecodeBy.reading l.by) l.count l.fn.cursor
