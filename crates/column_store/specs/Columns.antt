-- One cell of each of several columns.
use Rattle.std.specs.Prelude.{◌≡◌, ℕ, ◌<◌, Bool, true, false, List, [], ◌∷◌, ◌++◌, length, map}
use Rattle.std.specs.Prelude.{slice_index_or, slice_set}
use Rattle.column_store.specs.Types.{Value, Null}
use Rattle.column_store.specs.Cells.{Cells, is_of_kind}

abbrev pub no_cells : Cells
no_cells = record { text = false; items = []; spare = 0 }

-- the cell of each column in a slot
abbrev pub values_at : List Cells → ℕ → List Value
values_at columns slot = map (λ column. slice_index_or column.items slot Null) columns

abbrev pub kinds_of : List Cells → List Bool
kinds_of columns = map (λ column. column.text) columns

abbrev pub AreLong : ℕ → List Cells → Type 0
AreLong count columns = (k : ℕ) → k < length columns
    → length (slice_index_or columns k no_cells).items ≡ count

-- each column has a cell more
pub record ArePushed (old : List Cells) (values : List Value) (new : List Cells) : Type 0 where
  pub count : length new ≡ length old
  pub cells : (k : ℕ) → k < length old → (slice_index_or new k no_cells).items
      ≡ (slice_index_or old k no_cells).items ++ slice_index_or values k Null ∷ []
  pub kinds : (k : ℕ) → k < length old → (slice_index_or new k no_cells).text
      ≡ (slice_index_or old k no_cells).text

-- each column has another cell in a slot
pub record AreSet (old : List Cells) (slot : ℕ) (values : List Value) (new : List Cells) : Type 0 where
  pub count : length new ≡ length old
  pub cells : (k : ℕ) → k < length old → (slice_index_or new k no_cells).items
      ≡ slice_set (slice_index_or old k no_cells).items slot (slice_index_or values k Null)
  pub kinds : (k : ℕ) → k < length old → (slice_index_or new k no_cells).text
      ≡ (slice_index_or old k no_cells).text

-- each value is of the kind of its column
abbrev pub FitColumns : List Cells → List Value → Type 0
FitColumns columns values = (k : ℕ) → k < length columns
    → is_of_kind (slice_index_or columns k no_cells).text (slice_index_or values k Null) ≡ true
