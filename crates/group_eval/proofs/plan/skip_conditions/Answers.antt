use Rattle.std.proofs.Common.{drop}
use Rattle.ldv_value.proofs.Places.{drop_item}
use Rattle.predicates.proofs.Places.{item-passed}
use Rattle.group_eval.specs.Types.{Expr}
use Rattle.group_eval.proofs.plan.skip_conditions.Goals as goal

pub loop-condition-preserved : goal.loop-condition-preserved
loop-condition-preserved c = λ scope more is.
    let all = c.args.conditions.now in
    let i = c.loop-condition.condition-index in
    item-passed scope (λ (e : Expr). e) all i c.condition-item.result (drop c.loop-condition.at c.args.places.now) (drop c.skip_places-end.result c.args.places.now) more
    (drop_item all i c.condition-item.result c.loop-condition-test.true c.condition-item.is) (c.loop-condition.invariant scope more is) c.skip_places-end.ensures.others
