-- Good statements leave good tables: new values are those of good expressions, and other values were there.
use Rattle.std.proofs.Common.{◌≡◌, ℕ, ◌+◌, ◌≤◌, List, [], ◌∷◌, refl, sym, subst, Bool, true, false}
use Rattle.std.specs.Prelude.{Option, Some, None, option_map, map, find, zip, length, not, if◌then◌else◌}
use Rattle.std.specs.List.{AllByRecursion}
use Rattle.std.specs.Str.{IsUtf8}
use Rattle.ldv_value.specs.Limits.{max_columns}
use Rattle.sql_laws.specs.Types.{Value, Catalog, Expr, Set, Statement, TheQuery, TheInsert, TheUpdate, TheDelete, Update, Column, Schema, Table, TableRow}
use Rattle.ldv_value.proofs.ItemLists.{all_append, all_filter, all_found}
use Rattle.sql_model.specs.Changes.{is_matched, plain_value, is_given, given_value, value_given, new_values, numbered_rows, rows_of_insert, sets_column, value_set, updated_value, updated_row, update_one, after_insert, after_update, after_delete, table_after, changed_in, matched, new_rows}
use Rattle.sql_model.specs.Meaning.{Environment, or_null}
use Rattle.sql_model.specs.Scope.{InScope, is_table, own_scope, environment}
use Rattle.value_laws.specs.Values.{GoodValue, GoodValues, GoodExpr, GoodExprs, GoodSet, GoodStatement, GoodRow, GoodForeign, GoodTable, GoodTables}
use Rattle.value_laws.proofs.GoodMeaning.{null_good, GoodEnvironment, environment_good, eval_good}

-- ---- INSERT

plain_good : (e : Expr) → GoodExpr e → GoodValue (plain_value e)
plain_good e good = eval_good e (environment [] [] ∷ []) good (environment_good [] [] tt, tt)

abbrev Given : Type 0
Given = List ℕ × Expr

abbrev GoodGiven : Given → Type 0
GoodGiven given = GoodExpr given.1

given_good : (o : Option Given) → ((given : Given) → o ≡ Some given → GoodGiven given)
    → GoodValue (or_null (option_map given_value o))
given_good None good = null_good
given_good (Some given) good = plain_good given.1 (good given refl)

zip_good : (names : List (List ℕ)) (exprs : List Expr) → GoodExprs exprs → AllByRecursion GoodGiven (zip names exprs)
zip_good [] exprs good = tt
zip_good (name ∷ names) [] good = tt
zip_good (name ∷ names) (e ∷ exprs) good = (good.0, zip_good names exprs good.1)

columns_good : (given : List Given) → AllByRecursion GoodGiven given → (columns : List Column)
    → GoodValues (map (value_given given) columns)
columns_good given good [] = tt
columns_good given good (c ∷ cs) =
    (given_good (find (is_given c.name) given) (λ g is. all_found GoodGiven (is_given c.name) given g good is), columns_good given good cs)

plains_good : (exprs : List Expr) → GoodExprs exprs → GoodValues (map plain_value exprs)
plains_good [] good = tt
plains_good (e ∷ exprs) good = (plain_good e good.0, plains_good exprs good.1)

new_good : (names : Option (List (List ℕ))) (columns : List Column) (exprs : List Expr) → GoodExprs exprs
    → GoodValues (new_values names columns exprs)
new_good None columns exprs good = plains_good exprs good
new_good (Some names) columns exprs good = columns_good (zip names exprs) (zip_good names exprs good) columns

numbered_good : (names : Option (List (List ℕ))) (columns : List Column) (n : ℕ) (rows : List (List Expr))
    → AllByRecursion GoodExprs rows
    → AllByRecursion GoodRow (numbered_rows n (map (new_values names columns) rows))
numbered_good names columns n [] good = tt
numbered_good names columns n (exprs ∷ rows) good =
    (new_good names columns exprs good.0, numbered_good names columns (n + 1) rows good.1)

-- ---- UPDATE

set_good : (o : Option Set) → ((set : Set) → o ≡ Some set → GoodSet set) → (env : Environment) → GoodEnvironment env
    → (old : Value) → GoodValue old → GoodValue (value_set o env old)
set_good None sets env good old before = before
set_good (Some set) sets env good old before = eval_good set.expr (env ∷ []) (sets set refl) (good, tt)

cells_good : (sets : List Set) → AllByRecursion GoodSet sets → (env : Environment) → GoodEnvironment env
    → (columns : List Column) (values : List Value) → GoodValues values
    → GoodValues (map (updated_value sets env) (zip columns values))
cells_good sets good env fit [] values all = tt
cells_good sets good env fit (c ∷ cs) [] all = tt
cells_good sets good env fit (c ∷ cs) (v ∷ vs) all = (
  set_good (find (sets_column c) sets) (λ set is. all_found GoodSet (sets_column c) sets set good is) env fit v all.0,
  cells_good sets good env fit cs vs all.1,
)

module _ (scope : List InScope) (update : Update) (sets : AllByRecursion GoodSet update.sets) (columns : List Column) where
  updated_good : (row : TableRow) → GoodRow row → GoodRow (updated_row scope update columns row)
  updated_good row good = cells_good update.sets sets (environment scope row.values) (environment_good scope row.values good) columns row.values good

  pub each_updated : (rows : List TableRow) → AllByRecursion GoodRow rows
      → AllByRecursion GoodRow (map (updated_row scope update columns) rows)
  each_updated [] all = tt
  each_updated (row ∷ rows) all = (updated_good row all.0, each_updated rows all.1)

  row_chosen : (b : Bool) (new old : TableRow) → GoodRow new → GoodRow old → GoodRow (if b then new else old)
  row_chosen true new old first second = first
  row_chosen false new old first second = second

  one_good : (row : TableRow) → GoodRow row → GoodRow (update_one scope update columns row)
  one_good row good = row_chosen (is_matched scope update.pick row) (updated_row scope update columns row) row (updated_good row good) good

  rows_good : (rows : List TableRow) → AllByRecursion GoodRow rows
      → AllByRecursion GoodRow (map (update_one scope update columns) rows)
  rows_good [] all = tt
  rows_good (row ∷ rows) all = (one_good row all.0, rows_good rows all.1)

-- ---- a table after a statement

-- no statement changes a table's name or its schema
with_good : (before after : Table) → after.name ≡ before.name → after.schema ≡ before.schema → GoodTable before
    → AllByRecursion GoodRow after.rows → GoodTable after
with_good before after name schema good rows = record {
  name = subst (λ (n : List ℕ). IsUtf8 n) (sym name) good.name;
  columns = subst (λ (s : Schema). length s.columns ≤ max_columns) (sym schema) good.columns;
  key = subst (λ (s : Schema). length s.key ≤ max_columns) (sym schema) good.key;
  foreign = subst (λ (s : Schema). AllByRecursion GoodForeign s.foreign) (sym schema) good.foreign;
  rows = rows;
}

pub changed_good : (s : Statement) (catalog : Catalog) (t : Table) → GoodStatement s → GoodTable t
    → GoodTable (table_after s catalog t)
changed_good (TheQuery query) catalog t good table = table
changed_good (TheInsert insert) catalog t good table =
    with_good t (after_insert insert t) refl refl table
    (all_append GoodRow t.rows (rows_of_insert insert t) table.rows (numbered_good insert.columns t.schema.columns t.next insert.rows good))
changed_good (TheUpdate update) catalog t good table =
    let scope : List InScope = own_scope update.table catalog in
    with_good t (after_update scope update t) refl refl table (rows_good scope update good.sets t.schema.columns t.rows table.rows)
changed_good (TheDelete delete) catalog t good table =
    let scope : List InScope = own_scope delete.table catalog in
    with_good t (after_delete scope delete t) refl refl table
    (all_filter GoodRow (λ row. not (is_matched scope delete.pick row)) t.rows table.rows)

-- the rows that it inserts or matches, as they are afterwards
pub new_rows_good : (s : Statement) (catalog : Catalog) (t : Table) → GoodStatement s → GoodTable t
    → AllByRecursion GoodRow (new_rows s catalog t)
new_rows_good (TheQuery query) catalog t good table = tt
new_rows_good (TheInsert insert) catalog t good table =
    numbered_good insert.columns t.schema.columns t.next insert.rows good
new_rows_good (TheUpdate update) catalog t good table =
    let scope : List InScope = own_scope update.table catalog in
    each_updated scope update good.sets t.schema.columns (matched (TheUpdate update) catalog t)
    (all_filter GoodRow (is_matched scope update.pick) t.rows table.rows)
new_rows_good (TheDelete delete) catalog t good table = tt

-- ---- the tables after a statement

table_chosen : (b : Bool) (new old : Table) → GoodTable new → GoodTable old → GoodTable (if b then new else old)
table_chosen true new old first second = first
table_chosen false new old first second = second

pub changed_in_good : (name : Option (List ℕ)) (s : Statement) (catalog : Catalog) (db : List Table) → GoodStatement s
    → GoodTables db → GoodTables (changed_in name s catalog db)
changed_in_good None s catalog db good tables = tables
changed_in_good (Some name) s catalog [] good tables = tt
changed_in_good (Some name) s catalog (t ∷ ts) good tables = (
  table_chosen (is_table name t) (table_after s catalog t) t (changed_good s catalog t good tables.0) tables.0,
  changed_in_good (Some name) s catalog ts good tables.1,
)
