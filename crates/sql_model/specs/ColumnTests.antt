-- Tests of the values in single columns.
use Rattle.std.specs.Prelude.{List, Bool, true, false, not, slice_get}
use Rattle.std.specs.List.{list_all}
use Rattle.std.specs.Option.{option_map_or}
use Rattle.ldv_value.specs.Order.{test_of}
use Rattle.sql_model.specs.Meaning.{is_null, is_true}
use Rattle.ldv_value.specs.Cells.{value_at}
use Rattle.sql_model.specs.Types.{Column, Int, Value}
use Rattle.sql_model.specs.declared.column_test.CellTest.{CellTest}
use Rattle.sql_model.specs.declared.column_test.CellTest.TheVariants.{Compare, IsNull, IsNotNull}
use Rattle.sql_model.specs.declared.column_test.ColumnTest.{ColumnTest}

-- a value passes: its comparison with the number is True, or it is NULL, or it isn't NULL
abbrev pub passes : CellTest → Value → Bool
passes (Compare op constant) value = is_true (test_of op value (Int constant))
passes IsNull value = is_null value
passes IsNotNull value = not (is_null value)

-- a comparison is of a column of numbers, and a test for NULL of any column
abbrev pub suits : CellTest → Column → Bool
suits (Compare op constant) column = not column.text
suits IsNull column = true
suits IsNotNull column = true

abbrev pub fits : List Column → ColumnTest → Bool
fits columns test = option_map_or (suits test.test) (slice_get columns test.column) false

-- the values of a row pass each test
abbrev pub passes_all : List ColumnTest → List Value → Bool
passes_all tests values = list_all (λ test. passes test.test (value_at values test.column)) tests
