use Rattle.std.proofs.Common.{map, drop, List, ℕ, subst}
use Rattle.lineage.specs.declared.answer.Pick.{Pick}
use Rattle.group_eval.proofs.BoundLaws.{bound_is}
use Rattle.group_eval.specs.inner.BoundAggregates.{BindsTo}
use Rattle.group_eval.specs.Types.{Expr}
use Rattle.group_eval.proofs.group_value.bind_expr.Goals as goal

pub returns : goal.returns
returns c = λ scope placed.
    let picks : List Pick = map (λ r. r.now) c.args.group.now in
    let e : Expr = c.args.placed.now.expr in
    let places : List ℕ = c.args.placed.now.places in
    let left : List ℕ = drop c.bind_aggregates.new.at places in
    bound_is picks e (record { expr = c.in_ok-expr.expr; places = c.bind_aggregates.new.own }) places left
    (subst (λ (own : List ℕ). BindsTo picks e places own c.in_ok-expr.expr c.bind_aggregates.new.own left) c.new-own.ensures c.in_ok-expr.ensures)
    scope placed
