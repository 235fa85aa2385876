-- The parts of a valid table, and of the tests of a row's values.
use Rattle.std.proofs.Common.{◌≡◌, List, [], ◌∷◌, refl, sym, ap, ◌∙◌, Bool, true, false}
use Rattle.std.specs.Prelude.{◌&&◌, ◌==◌, length, nat_le, not, zip}
use Rattle.std.specs.List.{list_all, list_any}
use Rattle.std.proofs.lemmas.Bool.Decides.{Decides-eqb}
use Rattle.ldv_value.proofs.Booleans.{and-parts, and-from, and-true, or-parts}
use Rattle.ldv_value.specs.Limits.{max_next}
use Rattle.sql_model.specs.Changes.{refuses_null}
use Rattle.sql_model.specs.Tables.{has_kind, allows, each_value, fits, is_row, numbers_test, are_keys_unique, row_values, is_valid_table}
use Rattle.sql_model.specs.Types.{Value, Null, Int, Text, Column, Table}

pub record TableParts (t : Table) : Type 0 where
  pub next : nat_le t.next max_next ≡ true
  pub numbers : numbers_test (λ row. row.number) t.next t.rows ≡ true
  pub rows : list_all (λ row. is_row t.schema.columns row.values) t.rows ≡ true
  pub keys : are_keys_unique t.schema.key (row_values t) ≡ true

module _ (t : Table) where
  abbrev n : Bool
  n = nat_le t.next max_next

  abbrev m : Bool
  m = numbers_test (λ row. row.number) t.next t.rows

  abbrev r : Bool
  r = list_all (λ row. is_row t.schema.columns row.values) t.rows

  pub table-parts : is_valid_table t ≡ true → TableParts t
  table-parts valid =
      let first = and-parts (n && m && r) (are_keys_unique t.schema.key (row_values t)) valid in
      let second = and-parts (n && m) r first.0 in
      let third = and-parts n m second.0 in
      record { next = third.0; numbers = third.1; rows = second.1; keys = first.1 }

  pub table-from : TableParts t → is_valid_table t ≡ true
  table-from parts =
      and-from (n && m && r) (are_keys_unique t.schema.key (row_values t))
      (and-from (n && m) r (and-from n m parts.next parts.numbers) parts.rows) parts.keys

-- ---- values: their kinds and NOT NULL, at once or one after the other

abbrev Cells : Type 0
Cells = List (Column × Value)

pub fits-from : (cells : Cells) → list_all (λ cell. has_kind cell.0 cell.1) cells ≡ true
    → list_all (λ cell. allows cell.0 cell.1) cells ≡ true
    → list_all (λ cell. fits cell.0 cell.1) cells ≡ true
fits-from [] kinds there = refl
fits-from (cell ∷ cells) kinds there =
    let one = and-parts (has_kind cell.0 cell.1) (list_all (λ (c : Column × Value). has_kind c.0 c.1) cells) kinds in
    let two = and-parts (allows cell.0 cell.1) (list_all (λ (c : Column × Value). allows c.0 c.1) cells) there in
    and-from (fits cell.0 cell.1) (list_all (λ (c : Column × Value). fits c.0 c.1) cells)
    (and-from (has_kind cell.0 cell.1) (allows cell.0 cell.1) one.0 two.0) (fits-from cells one.1 two.1)

pub kinds-fits : (cells : Cells) → list_all (λ cell. fits cell.0 cell.1) cells ≡ true
    → list_all (λ cell. has_kind cell.0 cell.1) cells ≡ true
kinds-fits [] is = refl
kinds-fits (cell ∷ cells) is =
    let both = and-parts (fits cell.0 cell.1) (list_all (λ (c : Column × Value). fits c.0 c.1) cells) is in
    and-from (has_kind cell.0 cell.1) (list_all (λ (c : Column × Value). has_kind c.0 c.1) cells)
    (and-parts (has_kind cell.0 cell.1) (allows cell.0 cell.1) both.0).0 (kinds-fits cells both.1)

pub allows-fits : (cells : Cells) → list_all (λ cell. fits cell.0 cell.1) cells ≡ true
    → list_all (λ cell. allows cell.0 cell.1) cells ≡ true
allows-fits [] is = refl
allows-fits (cell ∷ cells) is =
    let both = and-parts (fits cell.0 cell.1) (list_all (λ (c : Column × Value). fits c.0 c.1) cells) is in
    and-from (allows cell.0 cell.1) (list_all (λ (c : Column × Value). allows c.0 c.1) cells)
    (and-parts (has_kind cell.0 cell.1) (allows cell.0 cell.1) both.0).1 (allows-fits cells both.1)

-- ---- rows without NULL where none may be

allowed : (c : Column) (v : Value) → refuses_null (c, v) ≡ false → allows c v ≡ true
allowed c Null is = ap not (sym (and-true c.not_null) ∙ is)
allowed c (Int z) is = refl
allowed c (Text t) is = refl

all_allowed : (cells : List (Column × Value)) → list_any refuses_null cells ≡ false
    → list_all (λ cell. allows cell.0 cell.1) cells ≡ true
all_allowed [] is = refl
all_allowed (cell ∷ cells) is =
    let parts = or-parts (refuses_null cell) (list_any refuses_null cells) is in
    and-from (allows cell.0 cell.1) (list_all (λ (c : Column × Value). allows c.0 c.1) cells) (allowed cell.0 cell.1 parts.0) (all_allowed cells parts.1)

-- a row of the right length and kinds that has no NULL where none may be
pub row_from : (columns : List Column) (values : List Value) → length values ≡ length columns
    → each_value has_kind columns values ≡ true → list_any refuses_null (zip columns values) ≡ false
    → is_row columns values ≡ true
row_from columns values long kinds there =
    and-from (length values == length columns) (each_value fits columns values)
    ((Decides-eqb (length values) (length columns)).1 long)
    (fits-from (zip columns values) kinds (all_allowed (zip columns values) there))
