-- Rows of a table by their slots and numbers.
use Rattle.std.proofs.Common.{◌≡◌, ◌==◌, ◌≢◌, ℕ, zero, suc, ◌+◌, ◌<◌, ◌≤◌, inl, inr, Bool, true, false, cond, not, ◌&&◌, List, [], ◌∷◌, ◌++◌, map, length, get_or, drop, refl, ap, sym, subst, ◌∙◌, arith, Option, Some, None, is_some, eq-eqb, add-one, drop-cons}
use Rattle.std.specs.Prelude.{ℤ, IsSome, slice_get, find, nat_le, nat_lt, ◌^◌, zip}
use Rattle.std.specs.List.{filter_map, cons_option, list_all, position_or_len}
use Rattle.std.specs.Option.{option_map, option_map_or, option_to_list}
use Rattle.std.proofs.lemmas.Bool.{cases_lt, ne_eqb, ltb-true, leb-true, lt-ltb, le-ltb, eqb-true}
use Rattle.std.proofs.lemmas.List.Sums.{prefix_len_is}
use Rattle.std.proofs.lemmas.List.{get_or_past, length-map}
use Rattle.table_store.specs.Stops.{has_shape}
use Rattle.sql_model.proofs.ValidTables.{kinds-fits}
use Rattle.ldv_value.proofs.Lists.{found-passes}
use Rattle.ldv_value.proofs.Booleans.{and-parts, and-from}
use Rattle.ldv_value.specs.Limits.{max_next}
use Rattle.ldv_value.specs.Sorted.{is_strictly_sorted, precedes_first}
use Rattle.row_version.specs.History.{current_values, version}
use Rattle.sql_model.specs.Tables.{has_kind, each_value, fits, is_row, numbers_test, is_valid_table, are_keys_unique, row_values}
use Rattle.table_store.specs.Types.{Cmp, Value, Null, Int, Text, Column, Table, TableRow}
use Rattle.column_store.specs.Cells.{is_of_kind}
use Rattle.table_store.specs.Scans.{passes_test}
use Rattle.table_store.specs.inner.Grid.{fits_kinds, are_of_kinds, AreNumberedFrom, next_after}
use Rattle.table_store.specs.Histories.{RowHistory, no_history, slot_of_row, row_of, row_now, rows_now, is_of_number, history_of_row, version_now, history_of_new_row, table_now}
use Rattle.table_store.specs.KeyIndex.{HeldKeys, AreHeld, AreIndexed}
use Rattle.table_store.specs.RowOrder.{AreInOrder}
use Rattle.table_store.specs.TableView.{kinds_in, AreTimed, history_at_start}

-- ---- slots

pub slot_past : (slots : List RowHistory) (slot : ℕ) → length slots ≤ slot → option_map (λ (row : TableRow). row.number) (row_now (get_or slots slot no_history)) ≡ None
slot_past slots slot past = ap (λ (h : RowHistory). option_map (λ (row : TableRow). row.number) (row_now h)) (get_or_past slots slot no_history past)

number_by : (number : ℕ) (now : Option (List Value)) (b : Bool) → is_some now ≡ b → option_map (λ (row : TableRow). row.number) (row_of number now) ≡ cond b (Some number) None
number_by number None true is = cc
number_by number None false is = refl
number_by number (Some values) true is = refl
number_by number (Some values) false is = cc

pub slot_gone : (row : RowHistory) → is_some (current_values row.changes) ≡ false → option_map (λ (one : TableRow). one.number) (row_now row) ≡ None
slot_gone row is = number_by row.number (current_values row.changes) false is

pub slot_here : (row : RowHistory) → is_some (current_values row.changes) ≡ true → option_map (λ (one : TableRow). one.number) (row_now row) ≡ Some row.number
slot_here row is = number_by row.number (current_values row.changes) true is

pub some_within : (slots : List RowHistory) (slot : ℕ) → IsSome (current_values (get_or slots slot no_history).changes) → slot < length slots
some_within slots slot some = elim (cases_lt slot (length slots)) [
  | inl within ↦ within
  | inr past ↦ let none : false ≡ true = subst (λ (h : RowHistory). IsSome (current_values h.changes)) (get_or_past slots slot no_history past) some in cc
]

pub ruleset slot_rules = (slot_past, slot_gone, slot_here, some_within)

kind_at : (columns : List Column) (k : ℕ) → slice_get (kinds_in columns) k ≡ option_map (λ (column : Column). column.text) (slice_get columns k)
kind_at [] k = refl
kind_at (c ∷ columns) zero = refl
kind_at (c ∷ columns) (suc k) = kind_at columns k

pub column_kind : (kinds : List Bool) (columns : List Column) (k : ℕ) → kinds ≡ kinds_in columns → option_map (λ (column : Column). column.text) (slice_get columns k) ≡ Some false → slice_get kinds k ≡ Some false
column_kind kinds columns k same is = ap (λ (l : List Bool). slice_get l k) same ∙ kind_at columns k ∙ is

pub scanned : (column : ℕ) (op : Cmp) (constant : ℤ) (row : RowHistory)
    → option_map_or (λ values. passes_test op constant (get_or values column Null)) (current_values row.changes) false
    ≡ option_map_or (λ (one : TableRow). passes_test op constant (get_or one.values column Null)) (row_now row) false
scanned column op constant row = by (current_values row.changes) where
  by : (now : Option (List Value)) → option_map_or (λ values. passes_test op constant (get_or values column Null)) now false
      ≡ option_map_or (λ (one : TableRow). passes_test op constant (get_or one.values column Null)) (row_of row.number now) false
  by None = refl
  by (Some values) = refl

pub standing_now : (row : RowHistory) → is_some (current_values row.changes) ≡ is_some (row_now row)
standing_now row = by (current_values row.changes) where
  by : (now : Option (List Value)) → is_some now ≡ is_some (row_of row.number now)
  by None = refl
  by (Some values) = refl

-- ---- rows by number

-- a row has the number that it is found by
pub number_found : (number : ℕ) (rows : List TableRow) (row : TableRow) → find (λ one. one.number == number) rows ≡ Some row → row.number ≡ number
number_found number rows row is = eqb-true row.number number (found-passes (λ (one : TableRow). one.number == number) rows row is)

find_none : (number : ℕ) (slots : List RowHistory) → ((k : ℕ) → k < length slots → (get_or slots k no_history).number ≢ number) → find (is_of_number number) slots ≡ None
find_none number [] absent = refl
find_none number (h ∷ slots) absent =
    ap (λ b. cond b (Some h) (find (is_of_number number) slots)) (ne_eqb h.number number (absent 0 (omega arith)))
    ∙ find_none number slots (λ k below. absent (suc k) (omega (arith, below)))

find_slot : (number slot : ℕ) (slots : List RowHistory) → slot < length slots → (get_or slots slot no_history).number ≡ number → ((k : ℕ) → k < slot → (get_or slots k no_history).number ≢ number)
    → find (is_of_number number) slots ≡ Some (get_or slots slot no_history)
find_slot number slot [] within is before = absurd (omega (arith, within))
find_slot number zero (h ∷ slots) within is before = ap (λ b. cond b (Some h) (find (is_of_number number) slots)) (eq-eqb h.number number is)
find_slot number (suc slot) (h ∷ slots) within is before =
    ap (λ b. cond b (Some h) (find (is_of_number number) slots)) (ne_eqb h.number number (before 0 (omega arith)))
    ∙ find_slot number slot slots (omega (arith, within)) is (λ k below. before (suc k) (omega (arith, below)))

module _ (slots : List RowHistory) (next : ℕ) (order : AreInOrder slots next) where
  pub history_here : (number slot : ℕ) → slot < length slots → (get_or slots slot no_history).number ≡ number → history_of_row number slots ≡ Some (get_or slots slot no_history)
  history_here number slot within is = find_slot number slot slots within is (λ k below same. absurd (omega (arith, order.rising k slot below within, is, same)))

  pub slot_here_is : (number slot : ℕ) → slot < length slots → (get_or slots slot no_history).number ≡ number → slot_of_row number slots ≡ Some slot
  slot_here_is number slot within is =
      let here : position_or_len (is_of_number number) slots ≡ slot = prefix_len_is (λ (h : RowHistory). not (is_of_number number h)) slots slot no_history (omega (arith, within))
      (λ k below. ap not (ne_eqb (get_or slots k no_history).number number (λ same. absurd (omega (arith, order.rising k slot below within, is, same)))))
      (λ less. ap not (eq-eqb (get_or slots slot no_history).number number is)) in
      ap (λ (n : ℕ). cond (nat_lt n (length slots)) (Some n) None) here ∙ ap (λ b. cond b (Some slot) None) (lt-ltb slot (length slots) within)

  pub version_here : (number slot : ℕ) → slot < length slots → (get_or slots slot no_history).number ≡ number
      → version_now (history_of_row number slots) ≡ cond (is_some (current_values (get_or slots slot no_history).changes)) (Some (version (get_or slots slot no_history).changes)) None
  version_here number slot within is = ap version_now (history_here number slot within is)

pub slot_none : (slots : List RowHistory) (number : ℕ) → ((k : ℕ) → k < length slots → (get_or slots k no_history).number ≢ number) → slot_of_row number slots ≡ None
slot_none slots number absent =
    let end : position_or_len (is_of_number number) slots ≡ length slots = prefix_len_is (λ (h : RowHistory). not (is_of_number number h)) slots (length slots) no_history (omega arith)
    (λ k below. ap not (ne_eqb (get_or slots k no_history).number number (absent k below))) (λ less. absurd (omega (arith, less))) in
    ap (λ (n : ℕ). cond (nat_lt n (length slots)) (Some n) None) end ∙ ap (λ b. cond b (Some (length slots)) None) (le-ltb (length slots) (length slots) (omega arith))

pub version_none : (slots : List RowHistory) (number : ℕ) → ((k : ℕ) → k < length slots → (get_or slots k no_history).number ≢ number) → version_now (history_of_row number slots) ≡ None
version_none slots number absent = ap version_now (find_none number slots absent)

-- ---- lists of rows

cons_is : {X : Type 0} (o : Option X) (xs : List X) → cons_option o xs ≡ option_to_list o ++ xs
cons_is None xs = refl
cons_is (Some x) xs = refl

-- what is left of a list with gaps
pub left_more : (f : RowHistory → Option TableRow) (slots : List RowHistory) (slot : ℕ) → slot < length slots
    → filter_map f (drop slot slots) ≡ option_to_list (f (get_or slots slot no_history)) ++ filter_map f (drop (slot + 1) slots)
left_more f slots slot within =
    ap (filter_map f) (drop_at slots slot within) ∙ cons_is (f (get_or slots slot no_history)) (filter_map f (drop (slot + 1) slots)) where
      drop_at : (xs : List RowHistory) (i : ℕ) → i < length xs → drop i xs ≡ get_or xs i no_history ∷ drop (i + 1) xs
      drop_at xs i below = rw add-one (drop-cons xs i no_history below)

-- ---- tables at the start

-- the first row, if there is one, has at least a number
abbrev AtLeast : ℕ → List TableRow → Type 0
AtLeast low [] = Unit {0}
AtLeast low (row ∷ rows) = low ≤ row.number

above_first : (row : TableRow) (rows : List TableRow) → precedes_first (λ a b. nat_lt a.number b.number) row rows ≡ true → AtLeast (row.number + 1) rows
above_first row [] is = tt
above_first row (other ∷ rows) is = omega (arith, ltb-true row.number other.number is)

pub numbered_from : (low next : ℕ) (rows : List TableRow) → next ≤ max_next → AtLeast low rows → is_strictly_sorted (λ a b. nat_lt a.number b.number) rows ≡ true → list_all (λ (row : TableRow). nat_lt row.number next) rows ≡ true → AreNumberedFrom low rows
numbered_from low next [] small first sorted below = tt
numbered_from low next (row ∷ rows) small first sorted below =
    let s = and-parts _ _ sorted in
    let b = and-parts _ _ below in
    (first, omega (arith, small, ltb-true row.number next b.0), numbered_from (row.number + 1) next rows small (above_first row rows s.0) s.1 b.1)

pub after_at_most : (low next : ℕ) (rows : List TableRow) → low ≤ next → list_all (λ (row : TableRow). nat_lt row.number next) rows ≡ true → next_after low rows ≤ next
after_at_most low next [] from below = from
after_at_most low next (row ∷ rows) from below =
    let b = and-parts _ _ below in
    after_at_most (row.number + 1) next rows (omega (arith, ltb-true row.number next b.0)) b.1

pub count_at_most : (low : ℕ) (rows : List TableRow) → AreNumberedFrom low rows → low + length rows ≤ next_after low rows
count_at_most low [] numbered = omega arith
count_at_most low (row ∷ rows) numbered = omega (arith, numbered.0, count_at_most (row.number + 1) rows numbered.2)

-- ---- kinds

kind_is : (column : Column) (value : Value) → has_kind column value ≡ true → is_of_kind column.text value ≡ true
kind_is column Null is = refl
kind_is column (Int number) is = is
kind_is column (Text text) is = is

pub kinds_are : (columns : List Column) (values : List Value) → each_value has_kind columns values ≡ true → list_all (λ p. is_of_kind p.0 p.1) (zip (kinds_in columns) values) ≡ true
kinds_are [] values is = refl
kinds_are (column ∷ columns) [] is = refl
kinds_are (column ∷ columns) (value ∷ values) is =
    let both = and-parts (has_kind column value) (each_value has_kind columns values) is in
    λ j. (kind_is column value both.0 j && kinds_are columns values both.1 j)

pub shape_fits : (columns : List Column) (values : List Value) → has_shape columns values ≡ true → fits_kinds (kinds_in columns) values ≡ true
shape_fits columns values is =
    let both = and-parts (length values == length columns) (each_value has_kind columns values) is in
    λ j. ((ap (λ (n : ℕ). length values == n) (length-map columns (λ (column : Column). column.text)) ∙ both.0) j && kinds_are columns values both.1 j)

row_fits : (columns : List Column) (values : List Value) → is_row columns values ≡ true → fits_kinds (kinds_in columns) values ≡ true
row_fits columns values is =
    let both = and-parts (length values == length columns) (each_value fits columns values) is in
    shape_fits columns values
    (and-from (length values == length columns) (each_value has_kind columns values) both.0 (kinds-fits (zip columns values) both.1))

pub rows_fit : (columns : List Column) (rows : List TableRow) → list_all (λ (row : TableRow). is_row columns row.values) rows ≡ true → are_of_kinds (kinds_in columns) rows ≡ true
rows_fit columns [] is = refl
rows_fit columns (row ∷ rows) is =
    let both = and-parts (is_row columns row.values) (list_all (λ (one : TableRow). is_row columns one.values) rows) is in
    λ j. (row_fits columns row.values both.0 j && rows_fit columns rows both.1 j)

-- ---- rows that were added at one time

pub added_timed : (time : ℕ) (rows : List TableRow) → AreTimed time (map (history_of_new_row time) rows)
added_timed time [] k below = absurd (omega (arith, below))
added_timed time (row ∷ rows) zero below = record { sorted = tt; by = omega arith }
added_timed time (row ∷ rows) (suc k) below = added_timed time rows k (omega (arith, below))

pub added_now : (time : ℕ) (rows : List TableRow) → rows_now (map (history_of_new_row time) rows) ≡ rows
added_now time [] = refl
added_now time (row ∷ rows) = ap (λ (l : List TableRow). row ∷ l) (added_now time rows)

pub begun_now : (table : Table) → table_now (history_at_start table) ≡ table
begun_now table = λ j. record { name = table.name; schema = table.schema; rows = added_now 0 table.rows j; next = table.next }

pub begun_all : (tables : List Table) → map table_now (map history_at_start tables) ≡ tables
begun_all [] = refl
begun_all (table ∷ tables) = λ j. begun_now table j ∷ begun_all tables j

-- the parts of a valid table
pub record IsValid (table : Table) : Type 0 where
  pub small : table.next ≤ max_next
  pub sorted : is_strictly_sorted (λ a b. nat_lt a.number b.number) table.rows ≡ true
  pub below : list_all (λ (row : TableRow). nat_lt row.number table.next) table.rows ≡ true
  pub rows : list_all (λ (row : TableRow). is_row table.schema.columns row.values) table.rows ≡ true
  pub unique : are_keys_unique table.schema.key (row_values table) ≡ true

first_at_least : (rows : List TableRow) → AtLeast 0 rows
first_at_least [] = tt
first_at_least (row ∷ rows) = omega arith

pub valid_parts : (table : Table) → is_valid_table table ≡ true → IsValid table
valid_parts table valid =
    let small = nat_le table.next max_next in
    let numbers = numbers_test (λ (row : TableRow). row.number) table.next table.rows in
    let rows = list_all (λ (row : TableRow). is_row table.schema.columns row.values) table.rows in
    let one = and-parts ((small && numbers) && rows) (are_keys_unique table.schema.key (row_values table)) valid in
    let two = and-parts (small && numbers) rows one.0 in
    let three = and-parts small numbers two.0 in
    let four = and-parts (is_strictly_sorted (λ (a b : TableRow). nat_lt a.number b.number) table.rows) (list_all (λ (row : TableRow). nat_lt row.number table.next) table.rows) three.1 in
    record { small = leb-true table.next max_next three.0; sorted = four.0; below = four.1; rows = two.1; unique = one.1 }

module _ (table : Table) (valid : is_valid_table table ≡ true) where
  pub valid_numbered : AreNumberedFrom 0 table.rows
  valid_numbered =
      let parts = valid_parts table valid in
      numbered_from 0 table.next table.rows parts.small (first_at_least table.rows) parts.sorted parts.below

  pub valid_next : next_after 0 table.rows ≤ table.next
  valid_next = after_at_most 0 table.next table.rows (omega arith) (valid_parts table valid).below

  pub valid_count : length table.rows < 2 ^ 32
  valid_count = omega (arith, valid_next, count_at_most 0 table.rows valid_numbered, (valid_parts table valid).small)

  pub valid_kinds : are_of_kinds (kinds_in table.schema.columns) table.rows ≡ true
  valid_kinds = rows_fit table.schema.columns table.rows (valid_parts table valid).rows

  pub valid_unique : are_keys_unique table.schema.key (map (λ (row : TableRow). row.values) table.rows) ≡ true
  valid_unique = (valid_parts table valid).unique

pub added_indexed : (key : List ℕ) (held : HeldKeys) (time : ℕ) (rows : List TableRow) → AreIndexed key held rows → AreIndexed key held (rows_now (map (history_of_new_row time) rows))
added_indexed key held time rows indexed = subst (λ (l : List TableRow). AreIndexed key held l) (sym (added_now time rows)) indexed

pub held_keyed : (key : List ℕ) (held : HeldKeys) (rows : List TableRow) → 0 < length key → AreIndexed key held rows → AreHeld key held rows
held_keyed [] held rows keyed indexed = absurd (omega (arith, keyed))
held_keyed (place ∷ places) held rows keyed indexed = indexed

pub ruleset begun_rules = (valid_numbered, valid_next, valid_count, valid_kinds, valid_unique, added_timed, added_indexed)
