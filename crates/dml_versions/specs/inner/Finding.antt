-- The rows that a statement matches, found in the slots of a table.
use Rattle.std.specs.Prelude.{◌≡◌, ℕ, List, [], map, filter, drop, Bool, false, Option, Some, None}
use Rattle.std.specs.Prelude.{unwrap_or, slice_index_or, true, IfSome}
use Rattle.std.specs.List.{flat_map}
use Rattle.std.specs.Option.{option_to_list}
use Rattle.lanes.specs.Sets.{member}
use Rattle.sql_model.specs.Changes.{is_matched}
use Rattle.sql_model.specs.Kinds.{names_in}
use Rattle.sql_model.specs.Scope.{InScope, places_in}
use Rattle.table_store.specs.Histories.{no_history, row_now, rows_now, version_now, history_of_row}
use Rattle.dml_versions.specs.Types.{ColumnName, Expr, RowHistory, TableHistory, TableRow}
use Rattle.dml_versions.specs.declared.found.Found.{Found}

-- ---- the columns of a table

-- a table's columns under its own name
abbrev pub scope_in : TableHistory → List InScope
scope_in table = map (λ column. record { source = table.name; column = column }) table.schema.columns

-- the columns that WHERE names
abbrev pub pick_names : Option Expr → List ColumnName
pick_names pick = flat_map names_in (option_to_list pick)

-- the places are those of the columns of WHERE
abbrev pub IsPickPlaced : List InScope → Option Expr → List ℕ → Type 0
IsPickPlaced scope None places = Unit {0}
IsPickPlaced scope (Some expr) places = places_in scope (names_in expr) ≡ places

-- a row of a table matches
abbrev pub test_in : TableHistory → Option Expr → TableRow → Bool
test_in table pick = is_matched (scope_in table) pick

-- ---- rows

abbrev pub row_of : Found → TableRow
row_of found = record { number = found.number; values = found.values }

-- the version of the row of a number, which stands
abbrev pub version_of : List RowHistory → ℕ → ℕ
version_of slots number = unwrap_or (version_now (history_of_row number slots)) 0

-- a row that stands, at its version
abbrev pub found_row : List RowHistory → TableRow → Found
found_row slots row =
    record { number = row.number; version = version_of slots row.number; values = row.values }

-- what passes a test, in a slot
abbrev pub found_at : (TableRow → Bool) → List RowHistory → ℕ → List Found
found_at test slots slot =
    map (found_row slots) (filter test (option_to_list (row_now (slice_index_or slots slot no_history))))

-- and in all slots from one on
abbrev pub found_from : (TableRow → Bool) → List RowHistory → ℕ → List Found
found_from test slots slot = map (found_row slots) (filter test (rows_now (drop slot slots)))

-- the row of a slot passes, if it stands
abbrev pub Passes : (TableRow → Bool) → RowHistory → Type 0
Passes test slot = IfSome (row_now slot) (λ row. test row ≡ true)

-- what is found is in the slots of a set
abbrev pub CoverFound : List ℕ → (TableRow → Bool) → List RowHistory → Type 0
CoverFound words test slots = (n : ℕ) → member words n ≡ false → found_at test slots n ≡ []

-- and each row in them is found
abbrev pub AllPass : List ℕ → (TableRow → Bool) → List RowHistory → Type 0
AllPass words test slots = (n : ℕ) → member words n ≡ true → Passes test (slice_index_or slots n no_history)
