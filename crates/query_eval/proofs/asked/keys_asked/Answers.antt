use Rattle.query_eval.proofs.Asks.{all_asked}
use Rattle.query_eval.proofs.asked.keys_asked.Goals as goal

pub returns-then-len-slots : goal.returns-then-len-slots
returns-then-len-slots c = all_asked c.args.sources.now c.args.ties.now c.args.prefixes.now.rows
