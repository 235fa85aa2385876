use Rattle.std.proofs.Common.{rules, ◌≡◌, ◌∙◌, ap, sym, subst, map, List, true}
use Rattle.std.proofs.lemmas.Result.{IfOk-weaker}
use Rattle.predicates.specs.Equality.{IsColumn}
use Rattle.predicates.specs.Placing.{IsPlaced}
use Rattle.lineage.specs.declared.answer.Pick.{Pick}
use Rattle.group_eval.proofs.ColumnLaws.{column_read}
use Rattle.group_eval.proofs.BoundLaws.{bound_read}
use Rattle.group_eval.specs.inner.Folding.{group_meaning}
use Rattle.group_eval.specs.Types.{Expr}
use Rattle.sql_model.specs.Kinds.{names_in}
use Rattle.sql_model.specs.Meaning.{Meaning}
use Rattle.sql_model.specs.Scope.{InScope, places_in}
use Rattle.sql_model.specs.declared.expr.Expr.TheVariants.{Aggregate}
use Rattle.group_eval.proofs.group_value.group_value.Goals as goal

pub returns-then-is_column-clause-value : goal.returns-then-is_column-clause-value
returns-then-is_column-clause-value c =
    let picks : List Pick = map (λ r. r.now) c.args.group.now in
    let placed = c.args.placed.now in
    let is : c.is_column.result ≡ true = search rules in
    let column : IsColumn placed.expr = c.is_column.ensures is in
    bound_read (λ (m : Meaning). m.value) picks placed placed c.args.first.now c.value_of.result c.requires.first (λ scope at. column_read picks placed column scope at) c.value_of.ensures

pub returns-in-Aggregate-clause-value : goal.returns-in-Aggregate-clause-value
returns-in-Aggregate-clause-value c =
    let picks : List Pick = map (λ r. r.now) c.args.group.now in
    let placed = c.args.placed.now in
    let f = c.in-Aggregate.fold in
    let argument = c.in-Aggregate.argument in
    let is : placed.expr ≡ Aggregate f argument = search rules in
    IfOk-weaker c.aggregate_value.result
    (λ value. (scope : List InScope) → places_in scope (names_in (Aggregate f argument)) ≡ placed.places → value ≡ (group_meaning scope picks (Aggregate f argument)).value)
    (λ value. (scope : List InScope) → IsPlaced scope placed → value ≡ (group_meaning scope picks placed.expr).value)
    (λ value made scope at.
    made scope (subst (λ (e : Expr). places_in scope (names_in e) ≡ placed.places) is at) ∙ ap (λ (e : Expr). (group_meaning scope picks e).value) (sym is))
    c.aggregate_value.ensures.value
