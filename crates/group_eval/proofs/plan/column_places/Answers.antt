use Rattle.std.proofs.Common.{◌≡◌, ◌+◌, ◌++◌, ◌∷◌, List, ℕ, drop, take, ap, ◌∙◌, sym}
use Rattle.ldv_value.proofs.Places.{drop_item}
use Rattle.group_eval.specs.Types.{ColumnName}
use Rattle.sql_model.specs.Scope.{places_in, place_of}
use Rattle.predicates.proofs.Lists.{moved-one}
use Rattle.group_eval.proofs.plan.column_places.Goals as goal

pub loop-column-preserved : goal.loop-column-preserved
loop-column-preserved c = λ scope more is.
    let columns = c.args.columns.now in
    let i = c.loop-column._column-index in
    let column = c._column-item.result in
    let split : drop i columns ≡ column ∷ drop (i + 1) columns = drop_item columns i column c.loop-column-test.true c._column-item.is in
    let rest : List ℕ = places_in scope (drop (i + 1) columns) in
    let before = c.loop-column.invariant scope more is in
    let here : drop c.loop-column.at c.args.places.now ≡ place_of scope column ∷ (rest ++ more) =
    before.0 ∙ ap (λ (xs : List ColumnName). places_in scope xs ++ more) split in (
      c.in_ok-take_place.ensures.others ∙ ap (drop 1) here,
      ap (λ (l : List ℕ). l ++ rest) (c.in_ok-take_place.ensures.own ∙ ap (λ (l : List ℕ). c.loop-column.own ++ take 1 l) here)
          ∙ moved-one c.loop-column.own rest (place_of scope column) (place_of scope column) (λ _. place_of scope column)
          ∙ ap (λ (xs : List ColumnName). c.loop-column.own ++ places_in scope xs) (sym split)
          ∙ before.1,
    )
