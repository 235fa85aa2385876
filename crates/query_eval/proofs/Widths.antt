-- The rows of a combination have the widths of their tables.
use Rattle.std.proofs.Common.{◌≡◌, ℕ, List, [], ◌∷◌, map, length}
use Rattle.std.specs.List.{flat_map, AllByRecursion}
use Rattle.ldv_value.proofs.ItemLists.{all_append}
use Rattle.query_eval.specs.inner.Sources.{HaveWidths, TablesAreWide}
use Rattle.query_eval.specs.Types.{FromItem, Table, TableRow}
use Rattle.sql_model.specs.QueryAnswer.{Combination, combinations}
use Rattle.sql_model.specs.Scope.{rows_of, table_at}

abbrev length-is : ℕ → TableRow → Type 0
length-is width row = length row.values ≡ width

with-row : (width : ℕ) (widths : List ℕ) (row : TableRow) → length-is width row → (cs : List Combination) → AllByRecursion (HaveWidths widths) cs
    → AllByRecursion (HaveWidths (width ∷ widths)) (map (λ others. row ∷ others) cs)
with-row width widths row is [] all = tt
with-row width widths row is (c ∷ cs) all = ((is, all.0), with-row width widths row is cs all.1)

with-rows : (width : ℕ) (widths : List ℕ) (cs : List Combination) → AllByRecursion (HaveWidths widths) cs → (rows : List TableRow)
    → AllByRecursion (length-is width) rows → AllByRecursion (HaveWidths (width ∷ widths)) (flat_map (λ row. map (λ others. row ∷ others) cs) rows)
with-rows width widths cs all [] wide = tt
with-rows width widths cs all (row ∷ rows) wide =
    all_append (HaveWidths (width ∷ widths)) (map (λ others. row ∷ others) cs) (flat_map (λ row. map (λ others. row ∷ others) cs) rows)
    (with-row width widths row wide.0 cs all) (with-rows width widths cs all rows wide.1)

pub all-wide : (from : List FromItem) (db : List Table) (widths : List ℕ) → TablesAreWide from db widths → AllByRecursion (HaveWidths widths) (combinations from db)
all-wide [] db [] wide = (tt, tt)
all-wide [] db (width ∷ widths) wide = absurd wide
all-wide (item ∷ from) db [] wide = absurd wide
all-wide (item ∷ from) db (width ∷ widths) wide =
    with-rows width widths (combinations from db) (all-wide from db widths wide.1) (rows_of (table_at item.table db)) wide.0
