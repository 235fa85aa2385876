use Rattle.std.proofs.Common.{sym}
use Rattle.lineage.proofs.table_blocks.make_room_at.Goals as goal

pub make_block_like-requires : goal.make_block_like-requires
make_block_like-requires c = (c.requires c.args.place c.in-Some.other.now (sym c.in-Some.ensures.value)).within
