use Rattle.query_eval.proofs.Probes.{tie_added, other_added}
use Rattle.query_eval.proofs.probe.add_condition.Goals as goal

pub returns-in_ok-push-in-Some : goal.returns-in_ok-push-in-Some
returns-in_ok-push-in-Some c = λ conds left.
    tie_added conds c.args.width c.args.ties.now.items c.push.new.self.items c.args.others.now left c.args.cond c.in-Some.probe c.in-Some.ensures c.in_ok-push-in-Some.ensures.items

pub returns-in_ok-push-in-None : goal.returns-in_ok-push-in-None
returns-in_ok-push-in-None c = λ conds left.
    other_added conds c.args.width c.args.ties.now.items c.args.others.now c.push-in-None.new.self left c.args.cond c.in_ok-push-in-None.ensures.ok
