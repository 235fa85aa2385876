use Rattle.std.proofs.Common.{◌∙◌}
use Rattle.std.specs.Map.Iter.{deref_pair}
use Rattle.std.proofs.lemmas.Map.Iter.{rest_more}
use Rattle.lineage.proofs.RoomLaws.{roomier_itself, roomier_still, room_first, room_step}
use Rattle.lineage.proofs.table_blocks.make_blocks_room.Goals as goal

pub loop-place-init : goal.loop-place-init
loop-place-init c = (
  roomier_itself c.args.blocks.now,
  room_first c.args.blocks.now c.args.others.now c.into_iter-place-iterator.result (c.into_iter-place-iterator.ensures.into_iter_gives ∙ c.iter-place-items.ensures.rest),
)

pub loop-place-preserved : goal.loop-place-preserved
loop-place-preserved c =
    let split = rest_more deref_pair c.loop-place.place-iterator c.next.new.self c.next.result (c.in-Some.place, c.in-Some._block) c.in-Some.is c.next.ensures.steps in (
      roomier_still c.args.blocks.now c.loop-place.blocks c.make_room_at.new.blocks c.loop-place.invariant.0 c.make_room_at.ensures.roomier,
      room_step c.loop-place.blocks c.make_room_at.new.blocks c.args.others.now c.loop-place.place-iterator c.next.new.self c.in-Some.place.now c.in-Some._block.now split
          c.make_room_at.ensures.roomier c.in_ok-make_room_at.ensures.room c.loop-place.invariant.1,
    )

pub returns-in_err-make_room_at-clause-roomier : goal.returns-in_err-make_room_at-clause-roomier
returns-in_err-make_room_at-clause-roomier c = roomier_still c.args.blocks.now c.loop-place.blocks c.make_room_at.new.blocks c.loop-place.invariant.0 c.make_room_at.ensures.roomier
