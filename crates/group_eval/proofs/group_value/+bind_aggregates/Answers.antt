use Rattle.std.proofs.Common.{rules, ◌≡◌, map, drop, List, ℕ, refl}
use Rattle.std.proofs.lemmas.Result.{IfOk-weaker}
use Rattle.lineage.specs.declared.answer.Pick.{Pick}
use Rattle.group_eval.proofs.BoundLaws.{as_forms}
use Rattle.group_eval.specs.inner.BoundAggregates.{BindsTo}
use Rattle.sql_model.specs.declared.expr.Expr.TheVariants.{Aggregate}
use Rattle.group_eval.proofs.group_value.+bind_aggregates.Goals as goal

pub returns-in-Aggregate : goal.returns-in-Aggregate
returns-in-Aggregate t c =
    let picks : List Pick = map (λ r. r.now) c.args.group.now in
    let places : List ℕ = drop c.args.at.now c.args.places.now in
    let left : List ℕ = drop c.bind_aggregate.new.at c.args.places.now in
    let own : List ℕ = c.args.own.now in
    let f = c.in-Aggregate.fold in
    let argument = c.in-Aggregate.argument in
    let is : c.args.expr.now ≡ Aggregate f argument = search rules in
    IfOk-weaker c.bind_aggregate.result
    (λ bound. (own : List ℕ) → BindsTo picks (Aggregate f argument) places own bound own left)
    (λ bound. BindsTo picks c.args.expr.now places own bound own left)
    (λ bound made. as_forms picks c.args.expr.now (Aggregate f argument) bound bound places own own left is refl (made own))
    c.bind_aggregate.ensures
