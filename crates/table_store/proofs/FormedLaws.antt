-- An accepted change of rows leaves valid tables valid, and a database a database.
use Rattle.std.proofs.Common.{◌≡◌, ◌∙◌, sym, ap, refl, subst, ℕ, zero, suc, ◌+◌, ◌<◌, arith, Bool, true, false, not, ◌&&◌, List, [], ◌∷◌, ◌++◌, map, length, get_or, set, Option, Some, None}
use Rattle.std.specs.Prelude.{filter, find, nat_lt, unwrap_or, zip, ◌==◌}
use Rattle.std.specs.List.{list_all, list_any}
use Rattle.std.specs.Option.{option_or}
use Rattle.std.proofs.lemmas.Bool.Decides.{Decides-eqb}
use Rattle.ldv_value.proofs.Booleans.{and-parts, and-from, or-parts}
use Rattle.ldv_value.proofs.Lists.{found-passes, found-all, list_all-append, list_all-filter, list_all-map}
use Rattle.ldv_value.proofs.Options.{none-some}
use Rattle.ldv_value.specs.Limits.{max_next}
use Rattle.ldv_value.specs.Sorted.{is_strictly_sorted}
use Rattle.sql_model.proofs.Databases.{database-from, parents_of_database, valid_of_database}
use Rattle.sql_model.specs.ForeignKeys.{have_parents}
use Rattle.sql_model.proofs.NewNumbers.{numbers-insert, numbers-map, numbers-filter, next-within}
use Rattle.sql_model.proofs.UniqueKeys.{unique-clash, unique-fewer, or_none}
use Rattle.sql_model.proofs.ValidTables.{TableParts, table-parts, table-from, row_from}
use Rattle.sql_model.specs.Changes.{KeyClash, has_null, key_clash, numbered_rows}
use Rattle.sql_model.specs.Tables.{AreWellFormed, are_distinct, each_value, has_kind, have_distinct_columns, is_database, is_row, is_valid_table, table_precedes}
use Rattle.table_store.specs.Stops.{has_shape, have_shape, insert_stop, is_among, key_stop, replace_stop, replaced_by, stop_if, values_of, with_inserted, with_removed, with_replaced}
use Rattle.table_store.specs.Types.{Column, Schema, Table, TableRow, Value}
use Rattle.table_store.specs.declared.error.StoreStop.{StoreStop}
use Rattle.table_store.specs.declared.error.StoreStop.TheVariants.{NotNull, Full}

-- ---- what no stop says

if_none : (b : Bool) (stop : StoreStop) → stop_if b stop ≡ None → b ≡ false
if_none true stop is = absurd (none-some stop (sym is))
if_none false stop is = refl

pub clash_none : (t : Table) (o : Option KeyClash) → key_stop t o ≡ None → o ≡ None
clash_none t None is = refl
clash_none t (Some clash) is = absurd (none-some _ (sym is))

-- ---- rows that are given

abbrev all_rows : List Column → List TableRow → Bool
all_rows columns rows = list_all (λ row. is_row columns row.values) rows

given_rows : (columns : List Column) (rows : List TableRow) → list_all (has_shape columns) (values_of rows) ≡ true
    → list_any (has_null columns) rows ≡ false → all_rows columns rows ≡ true
given_rows columns [] shape null = refl
given_rows columns (row ∷ rows) shape null =
    let both = and-parts (has_shape columns row.values) (list_all (has_shape columns) (values_of rows)) shape in
    let parts = or-parts (has_null columns row) (list_any (has_null columns) rows) null in
    let one = and-parts (length row.values == length columns) (each_value has_kind columns row.values) both.0 in
    and-from (is_row columns row.values) (all_rows columns rows)
    (row_from columns row.values ((Decides-eqb (length row.values) (length columns)).0 one.0) one.1 parts.0)
    (given_rows columns rows both.1 parts.1)

pub values_numbered : (n : ℕ) (rows : List (List Value)) → values_of (numbered_rows n rows) ≡ rows
values_numbered n [] = refl
values_numbered n (values ∷ rows) = ap (λ (l : List (List Value)). values ∷ l) (values_numbered (n + 1) rows)

-- a row, or the one that takes its place
module _ (given : List TableRow) (row : TableRow) where
  abbrev by_number : TableRow → Bool
  by_number new = new.number == row.number

  keeps_number : (o : Option TableRow) → find by_number given ≡ o → (unwrap_or o row).number ≡ row.number
  keeps_number None is = refl
  keeps_number (Some new) is = (Decides-eqb new.number row.number).0 (found-passes by_number given new is)

  pub replaced_number : (replaced_by given row).number ≡ row.number
  replaced_number = keeps_number (find by_number given) refl

  is_row_by : (columns : List Column) (o : Option TableRow) → find by_number given ≡ o → all_rows columns given ≡ true → is_row columns row.values ≡ true
      → is_row columns (unwrap_or o row).values ≡ true
  is_row_by columns None is all old = old
  is_row_by columns (Some new) is all old = found-all by_number (λ (one : TableRow). is_row columns one.values) given new all is

  replaced_is_row : (columns : List Column) → all_rows columns given ≡ true → is_row columns row.values ≡ true → is_row columns (replaced_by given row).values ≡ true
  replaced_is_row columns all old = is_row_by columns (find by_number given) refl all old

replaced_rows : (columns : List Column) (given : List TableRow) → all_rows columns given ≡ true → (rows : List TableRow) → all_rows columns rows ≡ true
    → all_rows columns (map (replaced_by given) rows) ≡ true
replaced_rows columns given all [] old = refl
replaced_rows columns given all (row ∷ rows) old =
    let both = and-parts (is_row columns row.values) (all_rows columns rows) old in
    and-from (is_row columns (replaced_by given row).values) (all_rows columns (map (replaced_by given) rows))
    (replaced_is_row given row columns all both.0) (replaced_rows columns given all rows both.1)

-- ---- one table

module _ (t : Table) (valid : is_valid_table t ≡ true) where
  abbrev columns : List Column
  columns = t.schema.columns

  parts : TableParts t
  parts = table-parts t valid

  pub inserted_valid : (rows : List (List Value)) → have_shape rows t ≡ true → insert_stop rows t ≡ None → is_valid_table (with_inserted rows t) ≡ true
  inserted_valid rows shape none =
      let more : List TableRow = numbered_rows t.next rows in
      let one = or_none (stop_if (list_any (has_null columns) more) NotNull) (option_or (key_stop t (key_clash (with_inserted rows t))) (stop_if (nat_lt max_next (t.next + length rows)) Full)) none in
      let two = or_none (key_stop t (key_clash (with_inserted rows t))) (stop_if (nat_lt max_next (t.next + length rows)) Full) one.1 in
      let made : all_rows columns more ≡ true = given_rows columns more (ap (list_all (has_shape columns)) (values_numbered t.next rows) ∙ shape) (if_none (list_any (has_null columns) more) NotNull one.0) in
      table-from (with_inserted rows t) (record {
        next = next-within (t.next + length rows) (if_none (nat_lt max_next (t.next + length rows)) Full two.1);
        numbers = numbers-insert t.next t.rows rows parts.numbers;
        rows = list_all-append (λ (row : TableRow). is_row columns row.values) t.rows more ∙ and-from (all_rows columns t.rows) (all_rows columns more) parts.rows made;
        keys = unique-clash t.schema.key (t.rows ++ more) (clash_none t (key_clash (with_inserted rows t)) two.0);
      })

  pub replaced_valid : (rows : List TableRow) → have_shape (values_of rows) t ≡ true → replace_stop rows t ≡ None → is_valid_table (with_replaced rows t) ≡ true
  replaced_valid rows shape none =
      let one = or_none (stop_if (list_any (has_null columns) rows) NotNull) (key_stop t (key_clash (with_replaced rows t))) none in
      table-from (with_replaced rows t) (record {
        next = parts.next;
        numbers = numbers-map (replaced_by rows) (replaced_number rows) t.next t.rows ∙ parts.numbers;
        rows = replaced_rows columns rows (given_rows columns rows shape (if_none (list_any (has_null columns) rows) NotNull one.0)) t.rows parts.rows;
        keys = unique-clash t.schema.key (map (replaced_by rows) t.rows) (clash_none t (key_clash (with_replaced rows t)) one.1);
      })

  pub removed_valid : (numbers : List ℕ) → is_valid_table (with_removed numbers t) ≡ true
  removed_valid numbers =
      let keep : TableRow → Bool = λ row. not (is_among numbers row) in
      table-from (with_removed numbers t) (record {
        next = parts.next;
        numbers = numbers-filter keep t.next t.rows parts.numbers;
        rows = list_all-filter (λ (row : TableRow). is_row columns row.values) keep t.rows parts.rows;
        keys = unique-fewer t.schema.key keep t.rows parts.keys;
      })

-- ---- the tables

pub all_at : {X : Type 0} (p : X → Bool) (xs : List X) (i : ℕ) (d : X) → list_all p xs ≡ true → i < length xs → p (get_or xs i d) ≡ true
all_at p [] i d all within = absurd (omega (arith, within))
all_at p (x ∷ xs) zero d all within = (and-parts (p x) (list_all p xs) all).0
all_at p (x ∷ xs) (suc i) d all within = all_at p xs i d (and-parts (p x) (list_all p xs) all).1 (omega (arith, within))

pub all_set : {X : Type 0} (p : X → Bool) (xs : List X) (i : ℕ) (y : X) → list_all p xs ≡ true → p y ≡ true → list_all p (set xs i y) ≡ true
all_set p [] i y all one = refl
all_set p (x ∷ xs) zero y all one = and-from (p y) (list_all p xs) one (and-parts (p x) (list_all p xs) all).1
all_set p (x ∷ xs) (suc i) y all one =
    let both = and-parts (p x) (list_all p xs) all in
    and-from (p x) (list_all p (set xs i y)) both.0 (all_set p xs i y both.1 one)

pub valid_all : (db : List Table) → AreWellFormed db → list_all is_valid_table db ≡ true
valid_all db formed = valid_of_database db formed.database

distinct_by : (db : List Table) → list_all (λ (s : Schema). are_distinct s.columns) (map (λ (t : Table). t.schema) db) ≡ have_distinct_columns db
distinct_by db = list_all-map (λ (s : Schema). are_distinct s.columns) (λ (t : Table). t.schema) db

-- one table has other rows
pub formed_set : (db : List Table) (place : ℕ) (new : Table) → AreWellFormed db → is_valid_table new ≡ true
    → map (λ (t : Table). t.name) (set db place new) ≡ map (λ (t : Table). t.name) db
    → map (λ (t : Table). t.schema) (set db place new) ≡ map (λ (t : Table). t.schema) db
    → is_strictly_sorted table_precedes (set db place new) ≡ true → AreWellFormed (set db place new)
formed_set db place new formed valid names schemas sorted = record {
  database = database-from (set db place new)
      (and-from (list_all is_valid_table (set db place new)) (is_strictly_sorted table_precedes (set db place new))
      (all_set is_valid_table db place new (valid_all db formed) valid) sorted)
      ((λ j. have_parents (record { names = names j; schemas = schemas j })) ∙ parents_of_database db formed.database);
  distinct = sym (distinct_by (set db place new)) ∙ ap (list_all (λ (s : Schema). are_distinct s.columns)) schemas ∙ distinct_by db ∙ formed.distinct;
}
