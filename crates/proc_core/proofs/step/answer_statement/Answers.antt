use Rattle.std.proofs.Common.{rules, arith, ◌<◌, ◌≤◌, length}
use Rattle.proc_core.proofs.Counts.{fewer_of}
use Rattle.proc_core.proofs.StepSame.{ask_state, ask_told, ask_stopped}
use Rattle.proc_core.proofs.step.answer_statement.Goals as goal

pub returns-in-Ok-give_reply_and_tell : goal.returns-in-Ok-give_reply_and_tell
returns-in-Ok-give_reply_and_tell g c =
    let latest : g.D.Database.latest c.ask.new.self ≤ c.args.who.step = omega (arith, c.requires.step, c.in-Ok.ensures.latest) in
    record {
      state = λ s is.
          ask_state g.D.Database.base c.args.machine.now c.args.who c.args.statement c.args.asker (g.D.Database.seen c.args.db.now) s
          c.give_reply_and_tell.new.machine c.in-Ok.reply (g.D.Database.seen c.ask.new.self) c.in-Ok.ensures.reply.0 (c.requires.asks, c.requires.asker)
          c.in-Ok.ensures.reply.1 c.in-Ok-give_reply_and_tell.ensures.core is;
      told = λ s is.
          ask_told g.D.Database.base c.args.machine.now c.args.who c.args.statement c.args.asker (g.D.Database.seen c.args.db.now) s
          c.give_reply_and_tell.new.machine c.in-Ok.reply (g.D.Database.seen c.ask.new.self) c.in-Ok.ensures.reply.0
          g.T.Tracer.KEEPS (g.T.Tracer.events c.args.tracer.now) (g.T.Tracer.events c.ask.new.tracer) (g.T.Tracer.events c.give_reply_and_tell.new.tracer)
          (c.requires.asks, c.requires.asker) c.in-Ok.ensures.reply.1 c.in-Ok-give_reply_and_tell.ensures.core c.in-Ok.ensures.reply.2
          c.in-Ok-give_reply_and_tell.ensures.told is;
      diverged = tt;
      latest = latest;
      grows = c.in-Ok-give_reply_and_tell.ensures.grows;
      counted = c.in-Ok-give_reply_and_tell.ensures.counted;
    }

pub returns-in-Err-Diverged : goal.returns-in-Err-Diverged
returns-in-Err-Diverged g c = record {
  state = tt;
  told = tt;
  diverged = λ s is.
      ask_stopped g.D.Database.base c.args.machine.now c.args.who c.args.statement c.args.asker (g.D.Database.seen c.args.db.now) s
      c.stop_without_reply.result (c.requires.asks, c.requires.asker) (c.in-Err-Diverged.ensures.diverged (search rules)) c.stop_without_reply.ensures is;
  latest = tt;
  grows = tt;
  counted = tt;
}

pub stop_without_reply-requires-clause-few : goal.stop_without_reply-requires-clause-few
stop_without_reply-requires-clause-few g c = λ r at.
    let fewer : length r.replies < c.args.who.step = fewer_of c.args.machine.now c.args.machine.now c.args.who.number r c.args.who.step c.requires.counted at in
    omega (arith, fewer)
