use Rattle.std.proofs.Common.{◌≡◌, ◌≤◌, ◌-◌, ◌*◌, ◌++◌, map}
use Rattle.lineage.specs.Lineage.{member}
use Rattle.lineage.specs.inner.Blocks.{row_in, rows_from}
use Rattle.lineage.proofs.listing.list_rows.Given as goal

abbrev pub invariant-members : goal.invariant-members
invariant-members l =
    (l.from ≤ l.end)
    × (l.members ++ map (member l.names) (rows_from (row_in l.block) l.place.0 (65536 * l.place.1) (l.end - l.from) l.from)
    ≡ l.fn.members ++ map (member l.names) (rows_from (row_in l.block) l.place.0 (65536 * l.place.1) l.end 0))

abbrev pub decreases-members : goal.decreases-members
decreases-members l = l.end - l.from
