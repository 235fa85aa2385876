use Rattle.std.proofs.Common.{rules, sym}
use Rattle.lineage.proofs.RoomLaws.{roomier_written}
use Rattle.lineage.proofs.table_blocks.make_room_there_like.Goals as goal

pub returns-in-Some-clause-roomier : goal.returns-in-Some-clause-roomier
returns-in-Some-clause-roomier c =
    roomier_written c.args.blocks.now (c.get_mut.follows.lender c.make_room_like.new.block) c.args.place c.in-Some.block.now c.make_room_like.new.block
    (sym c.in-Some.ensures.value) ((c.get_mut.follows.holds c.make_room_like.new.block).3 (search rules)) c.make_room_like.ensures.roomier
