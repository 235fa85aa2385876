use Rattle.query_eval.proofs.Asks.{kept, put}
use Rattle.query_eval.proofs.asked.add_key.Goals as goal

pub returns-clause-kept : goal.returns-clause-kept
returns-clause-kept c = kept c.args.keys.now c.insert.new.self c.args.key c.in_ok-insert.ensures.updates

pub returns-clause-added : goal.returns-clause-added
returns-clause-added c = put c.args.keys.now c.insert.new.self c.args.key c.in_ok-insert.ensures.updates
