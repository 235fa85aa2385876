use Rattle.std.proofs.Common.{◌≡◌, ◌∙◌, ap, sym, map, List}
use Rattle.std.proofs.lemmas.Result.{IfOk-weaker}
use Rattle.lineage.specs.declared.answer.Pick.{Pick}
use Rattle.group_eval.proofs.ColumnLaws.{values_at_place}
use Rattle.group_eval.specs.inner.Columns.{known_column}
use Rattle.group_eval.specs.inner.Folding.{value_over}
use Rattle.group_eval.specs.Types.{Value}
use Rattle.sql_model.specs.Kinds.{names_in}
use Rattle.sql_model.specs.Meaning.{aggregate_of, known_values}
use Rattle.sql_model.specs.Scope.{InScope, places_in}
use Rattle.group_eval.proofs.group_value.argument_fold.Goals as goal

pub returns-in-Some-clause-value : goal.returns-in-Some-clause-value
returns-in-Some-clause-value c =
    let picks : List Pick = map (λ r. r.now) c.args.group.now in
    let e = c.args.argument.now in
    let place = c.in-Some.place in
    IfOk-weaker c.column_fold.result
    (λ value. value ≡ aggregate_of c.args.fold (known_column place picks))
    (λ value. (scope : List InScope) → places_in scope (names_in e) ≡ c.args.places.now → value ≡ aggregate_of c.args.fold (known_values (map (value_over scope e) picks)))
    (λ value made scope at.
    made ∙ ap (λ (vs : List Value). aggregate_of c.args.fold (known_values vs)) (sym (values_at_place scope e place (c.in-Some.ensures scope at) picks)))
    c.column_fold.ensures.value
