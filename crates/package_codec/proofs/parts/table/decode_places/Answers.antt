use Rattle.std.proofs.lemmas.Result.{err_from_is_err_and}
use Rattle.package_codec.specs.Fields.{items_at, number_at}
use Rattle.std.specs.Int.{w8}
use Rattle.package_codec.proofs.Lists.{begins, with_front-next, ends, is_done}
use Rattle.package_codec.proofs.parts.table.decode_places.Goals as goal

pub loop-turn-init : goal.loop-turn-init
loop-turn-init c = rw c.new-places.ensures (begins (number_at w8) c.args.count c.args.cursor.now)

pub returns-in_err-place : goal.returns-in_err-place
returns-in_err-place c =
    let p = err_from_is_err_and c.from_residual.result c.from_residual.ensures.1 in
    rw (p.1, p.2) (ends (number_at w8) c.loop-turn.places c.args.count c.loop-turn._turn c.loop-turn.cursor c.decode_u8.new.cursor c.decode_u8.new.cursor (items_at (number_at w8) c.args.count c.args.cursor.now) c.in_err-place.field-0.0 c.loop-turn-test.true c.in_err-place.ensures c.loop-turn.invariant)

pub loop-turn-preserved : goal.loop-turn-preserved
loop-turn-preserved c =
    rw (c.in_ok-push.ensures.ok, c.from.ensures) (with_front-next (number_at w8) c.loop-turn.places c.args.count c.loop-turn._turn c.loop-turn.cursor c.in_ok-place.place c.decode_u8.new.cursor (items_at (number_at w8) c.args.count c.args.cursor.now) c.loop-turn-test.true c.in_ok-place.ensures c.loop-turn.invariant)

pub returns : goal.returns
returns c = is_done (number_at w8) c.loop-turn.places c.args.count c.loop-turn._turn c.loop-turn.cursor (items_at (number_at w8) c.args.count c.args.cursor.now) c.loop-turn-test.false c.loop-turn.invariant
