use Rattle.std.proofs.Common.{◌≡◌, None}
use Rattle.std.specs.BTreeMap as tree
use Rattle.std.specs.BTreeMap.{is_at}
use Rattle.std.specs.Map.{lookup}
use Rattle.lineage.specs.inner.Blocks.{AreRoomier, IsRoomy}
use Rattle.lineage.specs.Lineage.{Row, row_cmp}
use Rattle.lineage.proofs.table_blocks.make_blocks_room.Given as goal

abbrev pub invariant-loop-place : goal.invariant-loop-place
invariant-loop-place l =
    AreRoomier l.fn.blocks l.blocks
    × ((p : Row) → lookup (is_at (row_cmp p)) l.place-iterator ≡ None → IsRoomy (tree.get row_cmp l.blocks p) (tree.get row_cmp l.others p))
