use Rattle.std.proofs.Common.{rules, ◌≡◌, ◌∙◌, ap, sym, subst, map, drop, List, ℕ, length}
use Rattle.std.specs.Prelude.{Option, Some, None, pos}
use Rattle.std.proofs.lemmas.List.{length-map}
use Rattle.std.proofs.lemmas.Result.{IfOk-weaker}
use Rattle.lineage.specs.declared.answer.Pick.{Pick}
use Rattle.group_eval.proofs.BoundLaws.{settle-Count}
use Rattle.group_eval.specs.inner.BoundAggregates.{BindsTo}
use Rattle.group_eval.specs.Types.{Expr}
use Rattle.sql_model.specs.Meaning.{number_value}
use Rattle.sql_model.specs.declared.expr.Expr.TheVariants.{Constant, Aggregate}
use Rattle.group_eval.proofs.group_value.bind_aggregate.Goals as goal

pub returns-in-None : goal.returns-in-None
returns-in-None c = λ own.
    let picks : List Pick = map (λ r. r.now) c.args.group.now in
    let places : List ℕ = drop c.args.at.now c.args.places.now in
    let none : c.args.argument.now ≡ None = search rules in
    let flat : c.count_value.result ≡ number_value (pos (length c.args.group.now)) = search rules in
    let count : c.count_value.result ≡ number_value (pos (length picks)) =
    flat ∙ ap (λ n. number_value (pos n)) (sym (length-map c.args.group.now (λ r. r.now))) in
    subst (λ (o : Option Expr). BindsTo picks (Aggregate c.args.fold o) places own (Constant c.count_value.result) own places) (sym none)
    (settle-Count picks c.args.fold c.count_value.result places own count)

pub returns-in-Some : goal.returns-in-Some
returns-in-Some c =
    let picks : List Pick = map (λ r. r.now) c.args.group.now in
    let places : List ℕ = drop c.args.at.now c.args.places.now in
    let left : List ℕ = drop c.bind_fold.new.at c.args.places.now in
    let e : Expr = c.get.result.now in
    let some : c.args.argument.now ≡ Some e = search rules in
    IfOk-weaker c.bind_fold.result
    (λ bound. (own : List ℕ) → BindsTo picks (Aggregate c.args.fold (Some e)) places own bound own left)
    (λ bound. (own : List ℕ) → BindsTo picks (Aggregate c.args.fold c.args.argument.now) places own bound own left)
    (λ bound made own. subst (λ (o : Option Expr). BindsTo picks (Aggregate c.args.fold o) places own bound own left) (sym some) (made own))
    c.bind_fold.ensures
