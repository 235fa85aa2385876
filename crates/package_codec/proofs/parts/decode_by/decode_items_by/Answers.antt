use Rattle.std.proofs.lemmas.Result.{err_from_is_err_and}
use Rattle.package_codec.specs.Fields.{items_at}
use Rattle.package_codec.proofs.Lists.{begins, with_front-next, ends, is_done}
use Rattle.package_codec.proofs.parts.decode_by.decode_items_by.Goals as goal

pub loop-turn-init : goal.loop-turn-init
loop-turn-init g c = rw c.new-items.ensures (begins (g.X.DecodeBy.reading c.args.by) c.args.count c.args.cursor.now)

pub returns-in_err-item : goal.returns-in_err-item
returns-in_err-item g c =
    let p = err_from_is_err_and c.from_residual.result c.from_residual.ensures.1 in
    rw (p.1, p.2) (ends (g.X.DecodeBy.reading c.args.by) c.loop-turn.items c.args.count c.loop-turn._turn c.loop-turn.cursor c.decode_by.new.cursor c.decode_by.new.cursor (items_at (g.X.DecodeBy.reading c.args.by) c.args.count c.args.cursor.now) c.in_err-item.field-0.0 c.loop-turn-test.true c.in_err-item.ensures c.loop-turn.invariant)

pub loop-turn-preserved : goal.loop-turn-preserved
loop-turn-preserved g c =
    rw c.in_ok-push.ensures.ok (with_front-next (g.X.DecodeBy.reading c.args.by) c.loop-turn.items c.args.count c.loop-turn._turn c.loop-turn.cursor c.in_ok-item.item c.decode_by.new.cursor (items_at (g.X.DecodeBy.reading c.args.by) c.args.count c.args.cursor.now) c.loop-turn-test.true c.in_ok-item.ensures c.loop-turn.invariant)

pub returns : goal.returns
returns g c = is_done (g.X.DecodeBy.reading c.args.by) c.loop-turn.items c.args.count c.loop-turn._turn c.loop-turn.cursor (items_at (g.X.DecodeBy.reading c.args.by) c.args.count c.args.cursor.now) c.loop-turn-test.false c.loop-turn.invariant
