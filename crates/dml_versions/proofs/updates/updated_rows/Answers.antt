use Rattle.std.proofs.Common.{◌≡◌, ◌+◌, ◌++◌, ◌∷◌, List, ℕ, Option, drop, map, ap, sym, ◌∙◌}
use Rattle.ldv_value.proofs.Places.{drop_item}
use Rattle.predicates.proofs.Lists.{moved-one}
use Rattle.sql_model.specs.Changes.{updated_row}
use Rattle.dml_versions.proofs.MadeLaws.{row-updated}
use Rattle.dml_versions.specs.inner.Finding.{row_of}
use Rattle.dml_versions.specs.inner.Making.{place_set, values_by_set}
use Rattle.dml_versions.specs.Types.{Set, TableRow, Value}
use Rattle.dml_versions.specs.declared.found.Found.{Found}
use Rattle.dml_versions.proofs.updates.updated_rows.Goals as goal

pub loop-row-preserved : goal.loop-row-preserved
loop-row-preserved c = λ scope placed.
    let update = c.args.update.now in
    let columns = c.args.columns.now in
    let items : List Found = c.items-row-items.result.now in
    let i = c.loop-row.row-index in
    let row = c.row-item.result in
    let values : List Value = c.in_ok-updated_values.field-0 in
    let split : drop i items ≡ row ∷ drop (i + 1) items = drop_item items i row c.loop-row-test.true c.row-item.is in
    let make : TableRow → TableRow = updated_row scope update columns in
    let rest : List TableRow = map make (map row_of (drop (i + 1) items)) in
    let sources : c.in_ok-sources.sources.items ≡ map (place_set update.sets) columns =
    c.in_ok-sources.ensures ∙ ap (λ (l : List Set). map (place_set l) columns) c.items.ensures in
    let is : values ≡ values_by_set scope update.sets c.in_ok-sources.sources.items row.values =
    c.in_ok-updated_values.ensures scope placed ∙ ap (λ (l : List (Option ℕ)). values_by_set scope update.sets l row.values) c.as_slice.ensures.value in
    let made : TableRow = record { number = row.number; values = values } in
    let one : made ≡ make (row_of row) = row-updated scope update columns c.in_ok-sources.sources.items (row_of row) values sources is in
    ap (λ (l : List TableRow). l ++ rest) c.in_ok-push.ensures.ok
    ∙ moved-one c.loop-row.made rest made (make (row_of row)) one
    ∙ ap (λ (xs : List Found). c.loop-row.made ++ map make (map row_of xs)) (sym split)
    ∙ c.loop-row.invariant scope placed
