-- Tests of columns over the rows of a table.
use Rattle.std.specs.Prelude.{◌≡◌, List, Bool, true, false, slice_index_or}
use Rattle.std.specs.List.{list_all, AllByRecursion}
use Rattle.std.specs.Option.{option_map_or}
use Rattle.sql_model.specs.ColumnTests.{fits, passes}
use Rattle.sql_model.specs.declared.column_test.ColumnTest.{ColumnTest}
use Rattle.table_store.specs.Histories.{RowHistory, row_now}
use Rattle.table_store.specs.Types.{Column, Null, TableRow}

-- whether a row's value in the column passes; past the last column there is NULL
abbrev pub passes_column : ColumnTest → TableRow → Bool
passes_column test row = passes test.test (slice_index_or row.values test.column Null)

abbrev pub passes_columns : List ColumnTest → TableRow → Bool
passes_columns tests row = list_all (λ test. passes_column test row) tests

-- the row of a slot stands and passes
abbrev pub slot_tested : ColumnTest → RowHistory → Bool
slot_tested test slot = option_map_or (passes_column test) (row_now slot) false

-- the row of a slot stands and passes each test
abbrev pub slot_chosen : List ColumnTest → RowHistory → Bool
slot_chosen tests slot = option_map_or (passes_columns tests) (row_now slot) false

-- a table with these columns can make each test
abbrev pub AllFitColumns : List Column → List ColumnTest → Type 0
AllFitColumns columns tests = AllByRecursion (λ test. fits columns test ≡ true) tests
