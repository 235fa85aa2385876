use Rattle.std.proofs.Common.{rules, ◌≡◌, ◌∙◌, ap, sym, map, List, length}
use Rattle.std.specs.Prelude.{Option, Some, None, pos}
use Rattle.std.proofs.lemmas.List.{length-map}
use Rattle.std.proofs.lemmas.Result.{IfOk-weaker}
use Rattle.lineage.specs.declared.answer.Pick.{Pick}
use Rattle.group_eval.proofs.ColumnLaws.{count_read, fold_read}
use Rattle.group_eval.specs.inner.Folding.{group_meaning, value_over}
use Rattle.group_eval.specs.Types.{Expr}
use Rattle.sql_model.proofs.Folds.{fold-Aggregate}
use Rattle.sql_model.specs.Kinds.{names_in, names_step}
use Rattle.sql_model.specs.Meaning.{aggregate_of, known_values, number_value}
use Rattle.sql_model.specs.Scope.{InScope, places_in}
use Rattle.sql_model.specs.declared.expr.Expr.TheVariants.{Aggregate}
use Rattle.group_eval.proofs.group_value.aggregate_value.Goals as goal

pub returns-in-None-clause-value : goal.returns-in-None-clause-value
returns-in-None-clause-value c = λ scope placed.
    let picks : List Pick = map (λ r. r.now) c.args.group.now in
    let none : c.args.argument.now ≡ None = search rules in
    let flat : c.count_value.result ≡ number_value (pos (length c.args.group.now)) = search rules in
    let count : c.count_value.result ≡ number_value (pos (length picks)) =
    flat ∙ ap (λ n. number_value (pos n)) (sym (length-map c.args.group.now (λ r. r.now))) in
    count_read picks c.args.fold c.count_value.result scope count
    ∙ ap (λ (o : Option Expr). (group_meaning scope picks (Aggregate c.args.fold o)).value) (sym none)

pub returns-in-Some-clause-value : goal.returns-in-Some-clause-value
returns-in-Some-clause-value c =
    let picks : List Pick = map (λ r. r.now) c.args.group.now in
    let f = c.args.fold in
    let e : Expr = c.get.result.now in
    let some : c.args.argument.now ≡ Some e = search rules in
    IfOk-weaker c.argument_fold.result
    (λ value. (scope : List InScope) → places_in scope (names_in e) ≡ c.args.places.now → value ≡ aggregate_of f (known_values (map (value_over scope e) picks)))
    (λ value. (scope : List InScope) → places_in scope (names_in (Aggregate f c.args.argument.now)) ≡ c.args.places.now
    → value ≡ (group_meaning scope picks (Aggregate f c.args.argument.now)).value)
    (λ value made scope placed.
    let own : places_in scope (names_in (Aggregate f c.args.argument.now)) ≡ places_in scope (names_in e) =
    ap (λ (o : Option Expr). places_in scope (names_in (Aggregate f o))) some ∙ ap (places_in scope) (fold-Aggregate names_step f e) in
    fold_read picks f e value scope (made scope (sym own ∙ placed))
    ∙ ap (λ (o : Option Expr). (group_meaning scope picks (Aggregate f o)).value) (sym some))
    c.argument_fold.ensures.value
