-- A valid table stays valid after an accepted statement.
use Rattle.std.proofs.Common.{◌≡◌, ℕ, ◌+◌, List, [], ◌∷◌, ◌++◌, refl, sym, ap, ◌∙◌, subst, append-nil, Bool, true, false, inl, inr}
use Rattle.std.specs.Prelude.{Option, Some, None, unwrap_or, length, map, filter, zip, not, ◌&&◌, ◌||◌, ◌==◌, if◌then◌else◌}
use Rattle.std.specs.List.{list_any, list_all}
use Rattle.std.proofs.lemmas.Bool.Decides.{Decides-eqb}
use Rattle.ldv_value.proofs.Booleans.{and-parts, and-from, or-parts}
use Rattle.ldv_value.proofs.Cases.{cases-bool}
use Rattle.ldv_value.proofs.Lists.{list_all-append, list_all-filter, length-map}
use Rattle.ldv_value.proofs.Options.{none-some}
use Rattle.sql_laws.specs.Types.{Value, Catalog, Expr, SqlRefusal, NoTable, NoColumn, TypeClash, NotNull, Full, Delete, Insert, Statement, TheQuery, TheInsert, TheUpdate, TheDelete, Update, Column, Schema, Table, TableRow}
use Rattle.sql_model.proofs.NewNumbers.{numbers-insert, numbers-map, numbers-filter, next-within}
use Rattle.sql_laws.proofs.NewRows.{AllFirst, all_first, new_kinds, updated_kinds, updated_length}
use Rattle.sql_model.proofs.UniqueKeys.{unique-clash}
use Rattle.sql_model.proofs.ValidTables.{TableParts, table-parts, table-from, kinds-fits, row_from}
use Rattle.sql_model.specs.Changes.{is_matched, update_one, new_values, numbered_rows, rows_of_insert, updated_row, updated_values, after_insert, after_update, after_delete, table_after, has_null, lacks_value, KeyClash, key_clash, key_refusal, is_full, or_else, refusal_if, change_refusal}
use Rattle.sql_model.specs.Keys.{repeats}
use Rattle.sql_model.specs.Refusals.{lacks_table, insert_lacks_column, insert_clashes, row_fits, target_columns, update_clashes, set_fits, pick_fits, lacks_column, clashes, check_refusal, has_unresolved_name, insert_names}
use Rattle.sql_model.specs.Scope.{InScope, same_text, has_column, columns_of, own_scope, schema_at}
use Rattle.sql_model.specs.Tables.{are_distinct, fits, each_value, is_row, numbers_test, is_valid_table}

-- ---- what no refusal says

checks : (two three four : Bool)
    → (if two then Some NoTable else (if three then Some NoColumn else (if four then Some TypeClash else None))) ≡ None
    → (two ≡ false) × (three ≡ false) × (four ≡ false)
checks true three four is = absurd (none-some NoTable (sym is))
checks false true four is = absurd (none-some NoColumn (sym is))
checks false false true is = absurd (none-some TypeClash (sym is))
checks false false false is = (refl, refl, refl)

pub check-parts : (s : Statement) (catalog : Catalog) → check_refusal s catalog ≡ None
    → (lacks_table s catalog ≡ false) × (lacks_column s catalog ≡ false) × (clashes s catalog ≡ false)
check-parts s catalog is = checks (lacks_table s catalog) (lacks_column s catalog) (clashes s catalog) is

pub else-parts : (a b : Option SqlRefusal) → or_else a b ≡ None → (a ≡ None) × (b ≡ None)
else-parts None b is = (refl, is)
else-parts (Some refusal) b is = absurd (none-some refusal (sym is))

pub if-none : (b : Bool) (refusal : SqlRefusal) → refusal_if b refusal ≡ None → b ≡ false
if-none true refusal is = absurd (none-some refusal (sym is))
if-none false refusal is = refl

clash_none : (t : Table) (o : Option KeyClash) → key_refusal t o ≡ None → o ≡ None
clash_none t None is = refl
clash_none t (Some clash) is = absurd (none-some _ (sym is))

change_parts : (s : Statement) (catalog : Catalog) (t : Table) → change_refusal s catalog (Some t) ≡ None
    → (lacks_value s catalog t ≡ false) × (key_clash (table_after s catalog t) ≡ None) × (is_full s t ≡ false)
change_parts s catalog t is =
    let one = else-parts (refusal_if (lacks_value s catalog t) NotNull) _ is in
    let two = else-parts (key_refusal t (key_clash (table_after s catalog t))) (refusal_if (is_full s t) Full) one.1 in
    (if-none (lacks_value s catalog t) NotNull one.0, clash_none t (key_clash (table_after s catalog t)) two.0, if-none (is_full s t) Full two.1)

pub second_of : (a b : Bool) → (a || not b) ≡ false → b ≡ true
second_of true b is = cc
second_of false true is = refl
second_of false false is = cc

first_of : (a b : Bool) → (not a || b) ≡ false → a ≡ true
first_of true b is = refl
first_of false b is = cc

abbrev all_rows : List Column → List TableRow → Bool
all_rows columns rows = list_all (λ row. is_row columns row.values) rows

-- ---- INSERT

module _ (columns : List Column) (first : AllFirst columns columns) (names : Option (List (List ℕ))) (there : list_all (has_column columns) (unwrap_or names []) ≡ true) where
  inserted_rows : (n : ℕ) (rows : List (List Expr)) → list_all (row_fits (target_columns names columns)) rows ≡ true
      → list_any (has_null columns) (numbered_rows n (map (new_values names columns) rows)) ≡ false
      → all_rows columns (numbered_rows n (map (new_values names columns) rows)) ≡ true
  inserted_rows n [] fit null = refl
  inserted_rows n (exprs ∷ rows) fit null =
      let both = and-parts (row_fits (target_columns names columns) exprs) (list_all (row_fits (target_columns names columns)) rows) fit in
      let parts = or-parts (has_null columns (record { number = n; values = new_values names columns exprs })) (list_any (has_null columns) (numbered_rows (n + 1) (map (new_values names columns) rows))) null in
      let kinds = new_kinds columns names exprs first there both.0 in
      and-from (is_row columns (new_values names columns exprs)) (all_rows columns (numbered_rows (n + 1) (map (new_values names columns) rows)))
      (row_from columns (new_values names columns exprs) kinds.0 kinds.1 parts.0)
      (inserted_rows (n + 1) rows both.1 parts.1)

module _ (catalog : Catalog) (t : Table) (valid : is_valid_table t ≡ true) (distinct : are_distinct t.schema.columns ≡ true) where
  abbrev columns : List Column
  columns = t.schema.columns

  parts : TableParts t
  parts = table-parts t valid

  first : AllFirst columns columns
  first = all_first columns distinct

  insert_valid : (insert : Insert) → schema_at insert.table catalog ≡ Some t.schema → lacks_column (TheInsert insert) catalog ≡ false
      → clashes (TheInsert insert) catalog ≡ false
      → lacks_value (TheInsert insert) catalog t ≡ false
      → key_clash (after_insert insert t) ≡ None
      → is_full (TheInsert insert) t ≡ false
      → is_valid_table (after_insert insert t) ≡ true
  insert_valid insert schema lacks clash null key full =
      let lacks_here : insert_lacks_column insert columns ≡ false = sym (ap (λ (s : Option Schema). insert_lacks_column insert (columns_of s)) schema) ∙ lacks in
      let clash_here : insert_clashes insert columns ≡ false = sym (ap (λ (s : Option Schema). insert_clashes insert (columns_of s)) schema) ∙ clash in
      let there : list_all (has_column columns) (unwrap_or insert.columns []) ≡ true = first_of (list_all (has_column columns) (unwrap_or insert.columns [])) (has_unresolved_name [] (insert_names insert)) lacks_here in
      let fit : list_all (row_fits (target_columns insert.columns columns)) insert.rows ≡ true = second_of (repeats same_text (unwrap_or insert.columns [])) (list_all (row_fits (target_columns insert.columns columns)) insert.rows) clash_here in
      let more : List (List Value) = map (new_values insert.columns columns) insert.rows in
      let count : length more ≡ length insert.rows = length-map insert.rows (new_values insert.columns columns) in
      table-from (after_insert insert t) (record {
        next = next-within (t.next + length insert.rows) full;
        numbers = subst (λ k. numbers_test (λ row. row.number) (t.next + k) (t.rows ++ rows_of_insert insert t) ≡ true) count (numbers-insert t.next t.rows more parts.numbers);
        rows = list_all-append (λ row. is_row columns row.values) t.rows (rows_of_insert insert t)
            ∙ and-from (all_rows columns t.rows) (all_rows columns (rows_of_insert insert t)) parts.rows
            (inserted_rows columns first insert.columns there t.next insert.rows fit null);
        keys = unique-clash t.schema.key (t.rows ++ rows_of_insert insert t) key;
      })

  -- ---- DELETE

  delete_valid : (scope : List InScope) (delete : Delete) → key_clash (after_delete scope delete t) ≡ None
      → is_valid_table (after_delete scope delete t) ≡ true
  delete_valid scope delete key =
      let keep : TableRow → Bool = λ row. not (is_matched scope delete.pick row) in
      table-from (after_delete scope delete t) (record {
        next = parts.next;
        numbers = numbers-filter keep t.next t.rows parts.numbers;
        rows = list_all-filter (λ row. is_row columns row.values) keep t.rows parts.rows;
        keys = unique-clash t.schema.key (filter keep t.rows) key;
      })

  -- ---- UPDATE

  module _ (update : Update) where
    abbrev scope : List InScope
    scope = map (λ c. record { source = update.table; column = c }) columns

    abbrev after_one : TableRow → TableRow
    after_one row = update_one scope update columns row

    module _ (fit : list_all (set_fits columns scope) update.sets ≡ true) where
      updated_is_row : (row : TableRow) → is_row columns row.values ≡ true
          → has_null columns (updated_row scope update columns row) ≡ false
          → is_row columns (updated_values scope update.sets columns row.values) ≡ true
      updated_is_row row old null =
          let both = and-parts (length row.values == length columns) (each_value fits columns row.values) old in
          row_from columns (updated_values scope update.sets columns row.values)
          (updated_length scope update.sets columns row.values ((Decides-eqb (length row.values) (length columns)).0 both.0))
          (updated_kinds update.table columns update.sets row.values (kinds-fits (zip columns row.values) both.1) fit first) null

      updated_rows : (rows : List TableRow) → all_rows columns rows ≡ true
          → list_any (has_null columns) (map (updated_row scope update columns) (filter (is_matched scope update.pick) rows)) ≡ false
          → all_rows columns (map after_one rows) ≡ true
      updated_rows [] old null = refl
      updated_rows (row ∷ rows) old null =
          let both = and-parts (is_row columns row.values) (all_rows columns rows) old in
          elim (cases-bool (is_matched scope update.pick row)) [
            | inl hit ↦
                let here : list_any (has_null columns) (map (updated_row scope update columns) (row ∷ filter (is_matched scope update.pick) rows)) ≡ false = rw hit at null in
                let two = or-parts (has_null columns (updated_row scope update columns row)) (list_any (has_null columns) (map (updated_row scope update columns) (filter (is_matched scope update.pick) rows))) here in
                rw hit (and-from (is_row columns (updated_values scope update.sets columns row.values)) (all_rows columns (map after_one rows)) (updated_is_row row both.0 two.0) (updated_rows rows both.1 two.1))
            | inr miss ↦
                let rest : list_any (has_null columns) (map (updated_row scope update columns) (filter (is_matched scope update.pick) rows)) ≡ false = rw miss at null in
                rw miss (and-from (is_row columns row.values) (all_rows columns (map after_one rows)) both.0 (updated_rows rows both.1 rest))
          ]

      number_same : (row : TableRow) → (after_one row).number ≡ row.number
      number_same row = elim (cases-bool (is_matched scope update.pick row)) [
        | inl hit ↦ rw hit refl
        | inr miss ↦ rw miss refl
      ]

      update_valid : list_any (has_null columns) (map (updated_row scope update columns) (filter (is_matched scope update.pick) t.rows)) ≡ false
          → key_clash (after_update scope update t) ≡ None
          → is_valid_table (after_update scope update t) ≡ true
      update_valid null key = table-from (after_update scope update t) (record {
        next = parts.next;
        numbers = numbers-map after_one number_same t.next t.rows ∙ parts.numbers;
        rows = updated_rows t.rows parts.rows null;
        keys = unique-clash t.schema.key (map after_one t.rows) key;
      })

    own_is : schema_at update.table catalog ≡ Some t.schema → scope ≡ own_scope update.table catalog
    own_is schema =
        sym (append-nil scope)
        ∙ sym (ap (λ (s : Option Schema). map (λ c. record { source = update.table; column = c }) (columns_of s) ++ []) schema)

    -- what an accepted UPDATE gives, over its scope
    abbrev Updates : List InScope → Type 0
    Updates scope = list_all (set_fits columns scope) update.sets ≡ true
        → list_any (has_null columns) (map (updated_row scope update columns) (filter (is_matched scope update.pick) t.rows)) ≡ false
        → key_clash (after_update scope update t) ≡ None
        → is_valid_table (after_update scope update t) ≡ true

    updates : schema_at update.table catalog ≡ Some t.schema → Updates (own_scope update.table catalog)
    updates schema = subst Updates (own_is schema) update_valid

  -- ---- any statement

  -- its table is the one of the name that it changes
  abbrev pub IsTarget : Statement → Type 0
  IsTarget (TheQuery query) = Unit {0}
  IsTarget (TheInsert insert) = schema_at insert.table catalog ≡ Some t.schema
  IsTarget (TheUpdate update) = schema_at update.table catalog ≡ Some t.schema
  IsTarget (TheDelete delete) = schema_at delete.table catalog ≡ Some t.schema

  pub table_after-valid : (s : Statement) → IsTarget s → check_refusal s catalog ≡ None → change_refusal s catalog (Some t) ≡ None
      → is_valid_table (table_after s catalog t) ≡ true
  table_after-valid (TheQuery query) target check change = valid
  table_after-valid (TheInsert insert) target check change =
      let c = check-parts (TheInsert insert) catalog check in
      let d = change_parts (TheInsert insert) catalog t change in
      insert_valid insert target c.1 c.2 d.0 d.1 d.2
  table_after-valid (TheUpdate update) target check change =
      let c = check-parts (TheUpdate update) catalog check in
      let d = change_parts (TheUpdate update) catalog t change in
      let own : List InScope = own_scope update.table catalog in
      let clash : update_clashes update columns own ≡ false = sym (ap (λ (s : Option Schema). update_clashes update (columns_of s) own) target) ∙ c.2 in
      let fit : (list_all (set_fits columns own) update.sets && pick_fits own update.pick) ≡ true = second_of (repeats same_text (map (λ set. set.column) update.sets)) (list_all (set_fits columns own) update.sets && pick_fits own update.pick) clash in
      updates update target (and-parts (list_all (set_fits columns own) update.sets) (pick_fits own update.pick) fit).0 d.0 d.1
  table_after-valid (TheDelete delete) target check change =
      let d = change_parts (TheDelete delete) catalog t change in
      delete_valid (own_scope delete.table catalog) delete d.1
