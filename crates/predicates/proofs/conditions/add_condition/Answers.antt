use Rattle.std.proofs.Common.{drop}
use Rattle.predicates.proofs.ConjunctLaws.{added-one}
use Rattle.predicates.proofs.conditions.add_condition.Goals as goal

pub returns : goal.returns
returns c =
    added-one c.args.conds.now c.push.new.self c.args.expr.now (drop c.args.at.now c.args.places.now) (drop c.placed_at.new.at c.args.places.now) c.in_ok-placed.placed
    c.in_ok-placed.ensures.expr c.in_ok-placed.ensures.places c.in_ok-placed.ensures.others c.in_ok-push.ensures.ok
