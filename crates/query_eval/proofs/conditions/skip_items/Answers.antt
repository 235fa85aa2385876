use Rattle.std.proofs.Common.{drop}
use Rattle.ldv_value.proofs.Places.{drop_item}
use Rattle.predicates.proofs.Places.{item-passed}
use Rattle.query_eval.specs.Types.{Item}
use Rattle.query_eval.proofs.conditions.skip_items.Goals as goal

pub loop-item-preserved : goal.loop-item-preserved
loop-item-preserved c = λ scope more is.
    let all = c.args.items.now in
    let i = c.loop-item.item-index in
    item-passed scope (λ (x : Item). x.expr) all i c.item-item.result (drop c.loop-item.at c.args.places.now) (drop c.skip_places-end.result c.args.places.now) more
    (drop_item all i c.item-item.result c.loop-item-test.true c.item-item.is) (c.loop-item.invariant scope more is) c.skip_places-end.ensures.others
