use Rattle.std.proofs.Common.{◌≡◌, drop}
use Rattle.std.specs.Option.{option_or}
use Rattle.std.specs.FinMap.{find}
use Rattle.lineage.specs.inner.Blocks.{AreKept, AllRoom, found_at}
use Rattle.lineage.specs.Lineage.{Row, row_cmp}
use Rattle.lineage.proofs.table_blocks.add_rows.Given as goal

abbrev pub invariant-loop-entry : goal.invariant-loop-entry
invariant-loop-entry l =
    AreKept l.blocks × AllRoom l.blocks (drop l.entry-index l.rows)
    × ((q : Row) → option_or (found_at l.blocks q) (find row_cmp q (drop l.entry-index l.rows)) ≡ option_or (found_at l.fn.blocks q) (find row_cmp q l.rows))
