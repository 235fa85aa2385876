-- The tests of single columns from WHERE, and the slots that pass them.
use Rattle.std.proofs.Common.{◌≡◌, ◌∙◌, ap, sym, refl, ℕ, zero, suc, ◌+◌, ◌-◌, ◌<◌, ◌≤◌, arith, Bool, true, false, ◌&&◌, List, [], ◌∷◌, ◌++◌, map, length, get_or, drop, append_assoc, append-nil, inl, inr, Option, Some, None}
use Rattle.std.specs.Prelude.{filter, IfSome}
use Rattle.std.specs.Option.{option_map_or, option_to_list}
use Rattle.std.proofs.lemmas.Bool.{cases_Bool}
use Rattle.std.proofs.Math.ListN.{drop_of_length-le}
use Rattle.predicates.proofs.MaskLaws.{masks-fit, masks-pass}
use Rattle.predicates.specs.Conditions.{AreConditions}
use Rattle.predicates.specs.Masking.{AreMasks, AreExact, passes_at}
use Rattle.predicates.specs.declared.placed.BoundExpr.{BoundExpr}
use Rattle.lanes.specs.Sets.{member, IsNext}
use Rattle.ldv_value.proofs.Booleans.{true≢false}
use Rattle.sql_model.specs.ColumnTests.{passes, passes_all}
use Rattle.sql_model.specs.Kinds.{names_in}
use Rattle.ldv_value.specs.Cells.{value_at}
use Rattle.sql_model.specs.Scope.{InScope, places_in}
use Rattle.sql_model.specs.declared.column_test.ColumnTest.{ColumnTest}
use Rattle.table_store.proofs.GridLaws.{place_index}
use Rattle.table_store.specs.CellTests.{passes_columns, slot_chosen}
use Rattle.table_store.specs.Histories.{RowHistory, no_history, row_now, rows_now}
use Rattle.dml_versions.proofs.FoundLaws.{found-step}
use Rattle.dml_versions.specs.inner.Finding.{AllPass, CoverFound, found_at, found_from, found_row}
use Rattle.dml_versions.specs.inner.Testing.{AreTests, AreExactTests}
use Rattle.sql_model.specs.Changes.{is_matched}
use Rattle.dml_versions.specs.Types.{Column, Expr, TableRow, Value}
use Rattle.dml_versions.specs.declared.found.Found.{Found}

-- ---- tests

pub no_tests : (places : List ℕ) (columns : List Column) (tests : List ColumnTest) → tests ≡ [] → AreTests None places columns tests
no_tests places columns [] none = record { fit = tt; pass = λ scope placed row hit. refl }
no_tests places columns (test ∷ tests) none = cc

-- over the values of a row they are the tests of a table
all_pass : (row : TableRow) (tests : List ColumnTest) → passes_all tests row.values ≡ passes_columns tests row
all_pass row [] = refl
all_pass row (test ∷ tests) = λ j. ap (passes test.test) (place_index row.values test.column) j && all_pass row tests j

pub tests-are : (expr : Expr) (places : List ℕ) (columns : List Column) (conds : List BoundExpr) (masks : List ColumnTest)
    → ((scope : List InScope) → places ≡ places_in scope (names_in expr) → AreConditions scope (expr ∷ []) conds)
    → AreMasks conds 0 columns masks → AreTests (Some expr) places columns masks
tests-are expr places columns conds masks are found = record {
  fit = masks-fit conds 0 columns masks found;
  pass = λ scope placed row hit.
      let conditions = are scope (sym placed) in
      sym (all_pass row masks)
      ∙ masks-pass scope conds conditions.placed 0 columns row.values row.values (from-start row.values) (conditions.same row.values ∙ hit) masks found;
} where
  from-start : (row : List Value) (column : ℕ) → column < length columns → value_at row (0 + column) ≡ value_at row column
  from-start row column below = let same : 0 + column ≡ column = omega arith in ap (value_at row) same

-- ---- tests that are exact

from-first : (masks : List ColumnTest) (row : List Value) → passes_all masks row ≡ passes_at 0 masks row
from-first [] row = refl
from-first (mask ∷ masks) row =
    let same : mask.column ≡ 0 + mask.column = omega arith in
    λ j. passes mask.test (value_at row (same j)) && from-first masks row j

pub no_tests_exact : (places : List ℕ) (tests : List ColumnTest) → AreExactTests None places tests
no_tests_exact places tests scope placed row passed = refl

module _ (expr : Expr) (places : List ℕ) (columns : List Column) (conds : List BoundExpr) (masks : List ColumnTest)
    (are : (scope : List InScope) → places ≡ places_in scope (names_in expr) → AreConditions scope (expr ∷ []) conds) (exact : AreExact conds 0 columns masks) where
  same-tests : (scope : List InScope) → places_in scope (names_in expr) ≡ places → (row : TableRow) → passes_columns masks row ≡ is_matched scope (Some expr) row
  same-tests scope placed row =
      let conditions = are scope (sym placed) in
      sym (all_pass row masks)
      ∙ from-first masks row.values
      ∙ exact.same scope row.values conditions.placed
      ∙ conditions.same row.values

  pub exact-tests : AreTests (Some expr) places columns masks
  exact-tests = record {
    fit = exact.fit;
    pass = λ scope placed row hit. same-tests scope placed row ∙ hit;
  }

  pub exact-match : AreExactTests (Some expr) places masks
  exact-match scope placed row passed = sym (same-tests scope placed row) ∙ passed

-- ---- slots

-- the rows in the slots that exact tests leave are found
pub slots-pass : (tests : List ColumnTest) (test : TableRow → Bool) (slots : List RowHistory) (words : List ℕ)
    → ((n : ℕ) → member words n ≡ slot_chosen tests (get_or slots n no_history))
    → ((row : TableRow) → passes_columns tests row ≡ true → test row ≡ true) → AllPass words test slots
slots-pass tests test slots words chosen pass n set = by (row_now (get_or slots n no_history)) (sym (chosen n) ∙ set) where
  by : (o : Option TableRow) → option_map_or (passes_columns tests) o false ≡ true → IfSome o (λ row. test row ≡ true)
  by None is = tt
  by (Some row) is = pass row is

-- the rows that are found are in the slots that tests leave
pub covered : (tests : List ColumnTest) (test : TableRow → Bool) (slots : List RowHistory) (words : List ℕ)
    → ((n : ℕ) → member words n ≡ slot_chosen tests (get_or slots n no_history))
    → ((row : TableRow) → test row ≡ true → passes_columns tests row ≡ true) → CoverFound words test slots
covered tests test slots words chosen pass n miss = by (row_now (get_or slots n no_history)) (sym (chosen n) ∙ miss) where
  by : (o : Option TableRow) → option_map_or (passes_columns tests) o false ≡ false → map (found_row slots) (filter test (option_to_list o)) ≡ []
  by None is = refl
  by (Some row) is = elim (cases_Bool (test row)) [
    | inl hit ↦ absurd (true≢false (sym (pass row hit) ∙ is))
    | inr gone ↦ rw gone refl
  ]

module _ (words : List ℕ) (test : TableRow → Bool) (slots : List RowHistory) (cover : CoverFound words test slots) where
  -- nothing is found between
  found_skip : (k at : ℕ) → ((n : ℕ) → at ≤ n → n < at + k → member words n ≡ false) → found_from test slots at ≡ found_from test slots (at + k)
  found_skip zero at miss = let same : at ≡ at + 0 = omega arith in ap (found_from test slots) same
  found_skip (suc k) at miss =
      let next : (at + 1) + k ≡ at + suc k = omega arith in
      found-step test slots at
      ∙ ap (λ (l : List Found). l ++ found_from test slots (at + 1)) (cover at (miss at (omega arith) (omega arith)))
      ∙ found_skip k (at + 1) (λ n from below. miss n (omega (arith, from)) (omega (arith, below)))
      ∙ ap (found_from test slots) next

  pub found_next : (found new : List Found) (at slot next : ℕ) (all : List Found) → IsNext words at (Some slot) → new ≡ found ++ found_at test slots slot → next ≡ slot + 1
      → found ++ found_from test slots at ≡ all → new ++ found_from test slots next ≡ all
  found_next found new at slot next all is made after same =
      let there : at + (slot - at) ≡ slot = omega (arith, is.0) in
      let onward : found_from test slots at ≡ found_at test slots slot ++ found_from test slots (slot + 1) =
      found_skip (slot - at) at (λ n from below. is.2 n from (omega (arith, below, there))) ∙ ap (found_from test slots) there ∙ found-step test slots slot in
      ap (λ (l : List Found). l ++ found_from test slots next) made
      ∙ append_assoc found (found_at test slots slot) (found_from test slots next)
      ∙ ap (λ (n : ℕ). found ++ (found_at test slots slot ++ found_from test slots n)) after
      ∙ ap (λ (l : List Found). found ++ l) (sym onward)
      ∙ same

  pub found_end : (found : List Found) (at : ℕ) (all : List Found) → IsNext words at None → found ++ found_from test slots at ≡ all → found ≡ all
  found_end found at all none same =
      let past : drop (at + length slots) slots ≡ [] = drop_of_length-le slots (omega arith) in
      let end : found_from test slots at ≡ [] =
      found_skip (length slots) at (λ n from below. none n from) ∙ ap (λ (l : List RowHistory). map (found_row slots) (filter test (rows_now l))) past in
      sym (append-nil found) ∙ ap (λ (l : List Found). found ++ l) (sym end) ∙ same
