-- Cells of several columns by their places.
use Rattle.std.proofs.Common.{◌≡◌, ℕ, ◌<◌, ◌≤◌, List, length, get_or, ap, ◌∙◌, arith}
use Rattle.std.specs.Prelude.{Option, unwrap_or}
use Rattle.std.proofs.lemmas.List.{length-map, get_or-map}
use Rattle.std.proofs.lemmas.Option.{slice_get_past, unwrap_or-slice_get}
use Rattle.ldv_value.specs.Cells.{value_at}
use Rattle.column_store.specs.Types.{Value, Null}
use Rattle.column_store.specs.Cells.{Cells}
use Rattle.column_store.specs.Columns.{no_cells, values_at}

pub place_past : (values : List Value) (place : ℕ) → length values ≤ place → value_at values place ≡ Null
place_past values place past = ap (λ (value : Option Value). unwrap_or value Null) (slice_get_past values place past)

pub place_index : (values : List Value) (place : ℕ) → value_at values place ≡ get_or values place Null
place_index values place = unwrap_or-slice_get values place Null

pub row_past : (columns : List Cells) (slot place : ℕ) → length columns ≤ place → value_at (values_at columns slot) place ≡ Null
row_past columns slot place past = place_past (values_at columns slot) place (omega (arith, past, length-map columns (λ (column : Cells). get_or column.items slot Null)))

pub row_place : (columns : List Cells) (slot place : ℕ) → place < length columns → value_at (values_at columns slot) place ≡ get_or (get_or columns place no_cells).items slot Null
row_place columns slot place within = place_index (values_at columns slot) place ∙ get_or-map (λ (column : Cells). get_or column.items slot Null) columns place no_cells Null within

pub ruleset place_rules = (row_past, row_place)
