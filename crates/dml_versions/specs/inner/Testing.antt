-- Tests of single columns from WHERE.
use Rattle.std.specs.Prelude.{◌≡◌, ℕ, List, true, Option}
use Rattle.dml_versions.specs.inner.Finding.{IsPickPlaced}
use Rattle.dml_versions.specs.Types.{Column, Expr, TableRow}
use Rattle.sql_model.specs.Changes.{is_matched}
use Rattle.sql_model.specs.Scope.{InScope}
use Rattle.sql_model.specs.declared.column_test.ColumnTest.{ColumnTest}
use Rattle.table_store.specs.CellTests.{AllFitColumns, passes_columns}

-- a table with these columns can make the tests, and each row that WHERE matches passes them
pub record AreTests (pick : Option Expr) (places : List ℕ) (columns : List Column) (tests : List ColumnTest)
    : Type 0 where
  pub fit : AllFitColumns columns tests
  pub pass : (scope : List InScope) → IsPickPlaced scope pick places → (row : TableRow)
      → is_matched scope pick row ≡ true
      → passes_columns tests row ≡ true

-- WHERE matches each row that passes them
abbrev pub AreExactTests : Option Expr → List ℕ → List ColumnTest → Type 0
AreExactTests pick places tests = (scope : List InScope) → IsPickPlaced scope pick places → (row : TableRow)
    → passes_columns tests row ≡ true
    → is_matched scope pick row ≡ true
