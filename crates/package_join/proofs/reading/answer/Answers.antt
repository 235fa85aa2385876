use Rattle.std.proofs.Common.{refl}
use Rattle.package_join.proofs.ReadJoins.{whole_due, not_damaged, stop_once, stop_due}
use Rattle.package_join.proofs.reading.answer.Goals as goal

pub returns-in-Ok-clause-due : goal.returns-in-Ok-clause-due
returns-in-Ok-clause-due c = whole_due c.args.bytes.now c.in-Ok.parsed.cut c.whole_answer.result c.in-Ok.ensures.due c.whole_answer.ensures.ok c.whole_answer.ensures.err

pub returns-in-Ok-clause-at_once : goal.returns-in-Ok-clause-at_once
returns-in-Ok-clause-at_once c = not_damaged c.args.bytes.now c.in-Ok.parsed.cut c.whole_answer.result c.in-Ok.ensures.at_once

pub returns-in-Err-clause-due : goal.returns-in-Err-clause-due
returns-in-Err-clause-due c = stop_due c.args.bytes.now c.in-Err.stop c.in-Err.ensures.due

pub returns-in-Err-clause-at_once : goal.returns-in-Err-clause-at_once
returns-in-Err-clause-at_once c = stop_once c.args.bytes.now c.in-Err.stop _ refl c.in-Err.ensures.at_once
