use Rattle.lineage.proofs.RoomLaws.{roomier_still}
use Rattle.lineage.proofs.table_blocks.make_block_like.Goals as goal

pub returns-in-Ok-clause-roomier : goal.returns-in-Ok-clause-roomier
returns-in-Ok-clause-roomier c =
    roomier_still c.args.blocks.now c.make_block.new.blocks c.make_room_there_like.new.blocks c.make_block.ensures.roomier c.make_room_there_like.ensures.roomier
