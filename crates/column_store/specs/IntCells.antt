-- A column of numbers, some of which are NULL.
use Rattle.std.specs.Prelude.{◌≡◌, ℕ, ◌-◌, ℤ, Bool, Option, Some, None, List, [], ◌∷◌, length}
use Rattle.std.specs.Prelude.{vec_len, vec_capacity, min, cond}
use Rattle.column_store.specs.declared.int_column.IntColumn.TheInside.{Inside}

-- a cell for each slot, and for how many more there is room
pub record IntCells : Type 0 where
  pub items : List (Option ℤ)
  pub spare : ℕ

-- the cell of a number, where it isn't NULL
abbrev pub cell_of : ℤ → Bool → Option ℤ
cell_of value null = cond null None (Some value)

abbrev pub cells_of : List ℤ → List Bool → List (Option ℤ)
cells_of [] nulls = []
cells_of (value ∷ values) [] = []
cells_of (value ∷ values) (null ∷ nulls) = cell_of value null ∷ cells_of values nulls

abbrev pub seen_cells : Inside → IntCells
seen_cells a = record {
  items = cells_of a.values.items a.nulls.items;
  spare = min (vec_capacity a.values - vec_len a.values) a.nulls.spare;
}

abbrev pub IsColumn : Inside → Type 0
IsColumn a = vec_len a.values ≡ length a.nulls.items
