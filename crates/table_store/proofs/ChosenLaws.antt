-- The slots whose rows pass tests.
use Rattle.std.proofs.Common.{◌≡◌, ◌∙◌, sym, ap, refl, ℕ, Bool, true, false, not, ◌&&◌, List, [], ◌∷◌, Option, Some, None, is_some, cond}
use Rattle.std.specs.Prelude.{slice_get}
use Rattle.std.specs.List.{list_all}
use Rattle.std.specs.Option.{option_map, option_map_or}
use Rattle.sql_model.specs.declared.column_test.ColumnTest.{ColumnTest}
use Rattle.table_store.specs.CellTests.{passes_column, passes_columns, slot_tested, slot_chosen}
use Rattle.table_store.specs.Histories.{RowHistory, row_now}
use Rattle.table_store.specs.Types.{Column, TableRow}

-- a column of INT can be scanned
pub compare_fits : (columns : List Column) (place : ℕ) → option_map_or (λ (column : Column). not column.text) (slice_get columns place) false ≡ true
    → option_map (λ (column : Column). column.text) (slice_get columns place) ≡ Some false
compare_fits columns place is = by (slice_get columns place) is where
  is_false : (b : Bool) → not b ≡ true → b ≡ false
  is_false true is = cc
  is_false false is = refl

  by : (o : Option Column) → option_map_or (λ (column : Column). not column.text) o false ≡ true → option_map (λ (column : Column). column.text) o ≡ Some false
  by None is = cc
  by (Some column) is = ap Some (is_false column.text is)

-- one more test is made
pub kept_step : (before after one rest all : Bool) → after ≡ (before && one) → (before && (one && rest)) ≡ all → (after && rest) ≡ all
kept_step true after one rest all is same = ap (λ (b : Bool). b && rest) is ∙ same
kept_step false after one rest all is same = ap (λ (b : Bool). b && rest) is ∙ same

-- rows that stand and pass each test
pub chosen_is : (tests : List ColumnTest) (slot : RowHistory) → (is_some (row_now slot) && list_all (λ test. slot_tested test slot) tests) ≡ slot_chosen tests slot
chosen_is tests slot = by (row_now slot) where
  all_is : (row : TableRow) (some : List ColumnTest) → list_all (λ test. option_map_or (passes_column test) (Some row) false) some ≡ passes_columns some row
  all_is row [] = refl
  all_is row (test ∷ some) = ap (λ b. passes_column test row && b) (all_is row some)

  by : (now : Option TableRow) → (is_some now && list_all (λ test. option_map_or (passes_column test) now false) tests) ≡ option_map_or (passes_columns tests) now false
  by None = refl
  by (Some row) = all_is row tests
