use Rattle.std.proofs.Common.{◌∙◌, sym}
use Rattle.replay_log.proofs.LeftLogs.{next_taken}
use Rattle.replay_log.proofs.next.take_next.Goals as goal

pub returns-then-has_next-clause-reply : goal.returns-then-has_next-clause-reply
returns-then-has_next-clause-reply c =
    next_taken c.args.text.now c.args.params.now c.args.log.now.entries c.args.place c.take_from.result
    (sym c.has_next.ensures.next ∙ c.if-has_next.true) c.take_from.ensures.reply
