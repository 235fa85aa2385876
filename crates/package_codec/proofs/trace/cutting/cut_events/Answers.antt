use Rattle.std.proofs.Common.{arith}
use Rattle.std.proofs.lemmas.Result.{err_from_is_err_and}
use Rattle.package_codec.proofs.Cuts.{due, with_cut-next, ends}
use Rattle.package_codec.proofs.trace.cutting.cut_events.Goals as goal

pub returns-in_err-event : goal.returns-in_err-event
returns-in_err-event c =
    let p = err_from_is_err_and c.from_residual.result c.from_residual.ensures.1 in
    rw (p.1, p.2) (ends c.loop-turn.cut c.args.count c.loop-turn._turn c.loop-turn.cursor c.decode.new.cursor c.decode.new.cursor (due c.args.count c.args.cursor.now) c.in_err-event.field-0.0 c.loop-turn-test.true c.in_err-event.ensures c.loop-turn.invariant.due)

pub loop-turn-preserved : goal.loop-turn-preserved
loop-turn-preserved c = record {
  due = with_cut-next c.loop-turn.cut c.in_ok-cut.cut c.args.count c.loop-turn._turn c.loop-turn.cursor c.in_ok-event.event c.decode.new.cursor (due c.args.count c.args.cursor.now) c.loop-turn-test.true c.in_ok-event.ensures c.in_ok-cut.ensures.cut c.loop-turn.invariant.due;
  within = omega (arith, c.in_ok-cut.ensures.count, c.loop-turn.invariant.within);
}
