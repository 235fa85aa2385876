use Rattle.proc_core.proofs.step.give_reply_and_tell.Goals as goal

pub returns-clause-counted : goal.returns-clause-counted
returns-clause-counted g c = c.in_ok-give_reply.ensures.counted c.args.who.step c.requires.counted
