use Rattle.std.proofs.Common.{◌≤◌, length, drop}
use Rattle.lineage.specs.inner.Blocks.{AreRoomier, AllRoom}
use Rattle.lineage.proofs.table_blocks.make_rows_room.Given as goal

abbrev pub invariant-rows : goal.invariant-rows
invariant-rows l = (l.left ≤ length l.rows) × AreRoomier l.fn.blocks l.blocks × AllRoom l.blocks (drop l.left l.rows)

abbrev pub decreases-rows : goal.decreases-rows
decreases-rows l = l.left
