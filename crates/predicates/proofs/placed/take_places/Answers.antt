use Rattle.predicates.proofs.Names.{own_taken}
use Rattle.predicates.proofs.placed.take_places.Goals as goal

pub returns-clause-own : goal.returns-clause-own
returns-clause-own c =
    own_taken c.args.own.now c.add_between.new.own c.args.places.now c.args.expr.now c.args.at.now c.skip_places-end.result
    c.skip_places-end.ensures.onward c.skip_places-end.ensures.within c.skip_places-end.ensures.others c.in_ok-add_between.ensures.ok
