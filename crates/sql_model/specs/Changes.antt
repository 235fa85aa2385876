-- The table after an INSERT, UPDATE or DELETE, and the refusals that depend on its rows.
use Rattle.std.specs.Prelude.{ℕ, ◌+◌, List, [], ◌∷◌, ◌++◌, map, find, filter, zip, length, Bool, false, not}
use Rattle.std.specs.Prelude.{◌&&◌, ◌==◌, nat_lt, if◌then◌else◌, Option, Some, None, option_map}
use Rattle.std.specs.Prelude.{option_to_list}
use Rattle.std.specs.List.{list_any}
use Rattle.ldv_value.specs.Limits.{max_next}
use Rattle.sql_model.specs.Types.{Value, Catalog, Expr, SqlRefusal, NotNull, KeyTaken, Full, Delete, Insert}
use Rattle.sql_model.specs.Types.{Set, Statement, TheQuery, TheInsert, TheUpdate, TheDelete, Update, Column}
use Rattle.sql_model.specs.Types.{Table, TableRow}
use Rattle.sql_model.specs.QueryAnswer.{meets_all}
use Rattle.sql_model.specs.Keys.{same_values, values_at}
use Rattle.sql_model.specs.Scope.{InScope, same_text, is_table, table_at, own_scope, environment}
use Rattle.sql_model.specs.Meaning.{Environment, eval, is_null, or_null}

-- ---- rows that match

abbrev pub is_matched : List InScope → Option Expr → TableRow → Bool
is_matched scope pick row = meets_all (option_to_list pick) (environment scope row.values)

-- WHERE is True, or missing
abbrev pub matched_in : List InScope → Option Expr → List TableRow → List TableRow
matched_in scope pick rows = filter (is_matched scope pick) rows

-- ---- INSERT

-- of an expression that names no column
abbrev pub plain_value : Expr → Value
plain_value expr = (eval expr (environment [] [] ∷ [])).value

abbrev pub is_given : List ℕ → List ℕ × Expr → Bool
is_given name given = same_text given.0 name

abbrev pub given_value : List ℕ × Expr → Value
given_value given = plain_value given.1

-- a column that isn't named is NULL
abbrev pub value_given : List (List ℕ × Expr) → Column → Value
value_given given column = or_null (option_map given_value (find (is_given column.name) given))

abbrev pub new_values : Option (List (List ℕ)) → List Column → List Expr → List Value
new_values None columns exprs = map plain_value exprs
new_values (Some names) columns exprs = map (value_given (zip names exprs)) columns

abbrev pub numbered_rows : ℕ → List (List Value) → List TableRow
numbered_rows number [] = []
numbered_rows number (values
    ∷ rest) = record { number = number; values = values } ∷ numbered_rows (number + 1) rest

-- the new rows, with numbers from `next` on
abbrev pub rows_of_insert : Insert → Table → List TableRow
rows_of_insert insert table = numbered_rows table.next
    (map (new_values insert.columns table.schema.columns) insert.rows)

-- ---- UPDATE

abbrev pub sets_column : Column → Set → Bool
sets_column column set = same_text set.column column.name

abbrev pub value_set : Option Set → Environment → Value → Value
value_set None env old = old
value_set (Some set) env old = (eval set.expr (env ∷ [])).value

-- all new values are computed from the old row
abbrev pub updated_value : List Set → Environment → Column × Value → Value
updated_value sets env old = value_set (find (sets_column old.0) sets) env old.1

abbrev pub updated_values : List InScope → List Set → List Column → List Value → List Value
updated_values scope sets columns values =
    map (updated_value sets (environment scope values)) (zip columns values)

abbrev pub updated_row : List InScope → Update → List Column → TableRow → TableRow
updated_row scope update columns row =
    record { number = row.number; values = updated_values scope update.sets columns row.values }

-- a row that doesn't match stays as it is
abbrev pub update_one : List InScope → Update → List Column → TableRow → TableRow
update_one scope update columns row =
    if is_matched scope update.pick row then updated_row scope update columns row else row

-- ---- the table after

abbrev pub with_rows : Table → List TableRow → ℕ → Table
with_rows table rows next = record { name = table.name; schema = table.schema; rows = rows; next = next }

abbrev pub after_insert : Insert → Table → Table
after_insert insert table =
    with_rows table (table.rows ++ rows_of_insert insert table) (table.next + length insert.rows)

abbrev pub after_update : List InScope → Update → Table → Table
after_update scope update table =
    with_rows table (map (update_one scope update table.schema.columns) table.rows) table.next

abbrev pub after_delete : List InScope → Delete → Table → Table
after_delete scope delete table =
    with_rows table (filter (λ row. not (is_matched scope delete.pick row)) table.rows) table.next

abbrev pub table_after : Statement → Catalog → Table → Table
table_after (TheQuery query) catalog table = table
table_after (TheInsert insert) catalog table = after_insert insert table
table_after (TheUpdate update) catalog table = after_update (own_scope update.table catalog) update table
table_after (TheDelete delete) catalog table = after_delete (own_scope delete.table catalog) delete table

-- the name of the table that a statement changes
abbrev pub target_of : Statement → Option (List ℕ)
target_of (TheQuery query) = None
target_of (TheInsert insert) = Some insert.table
target_of (TheUpdate update) = Some update.table
target_of (TheDelete delete) = Some delete.table

abbrev pub table_of : Option (List ℕ) → List Table → Option Table
table_of None db = None
table_of (Some name) db = table_at name db

abbrev pub changed_in : Option (List ℕ) → Statement → Catalog → List Table → List Table
changed_in None statement catalog db = db
changed_in (Some name) statement catalog db =
    map (λ table. if is_table name table then table_after statement catalog table else table) db

-- ---- the rows that a statement changes

-- those that an UPDATE or a DELETE matches, as they are before it
abbrev pub matched : Statement → Catalog → Table → List TableRow
matched (TheQuery query) catalog table = []
matched (TheInsert insert) catalog table = []
matched (TheUpdate update) catalog table = matched_in (own_scope update.table catalog) update.pick table.rows
matched (TheDelete delete) catalog table = matched_in (own_scope delete.table catalog) delete.pick table.rows

-- those that are inserted or matched, as they are after it
abbrev pub new_rows : Statement → Catalog → Table → List TableRow
new_rows (TheQuery query) catalog table = []
new_rows (TheInsert insert) catalog table = rows_of_insert insert table
new_rows (TheUpdate update) catalog table =
    map (updated_row (own_scope update.table catalog) update table.schema.columns)
    (matched (TheUpdate update) catalog table)
new_rows (TheDelete delete) catalog table = []

-- a row of its number stood in the table
abbrev pub had_row : Table → TableRow → Bool
had_row table row = list_any (λ old. old.number == row.number) table.rows

-- ---- code 5

abbrev pub refuses_null : Column × Value → Bool
refuses_null cell = cell.0.not_null && is_null cell.1

abbrev pub has_null : List Column → TableRow → Bool
has_null columns row = list_any refuses_null (zip columns row.values)

abbrev pub lacks_value : Statement → Catalog → Table → Bool
lacks_value statement catalog table =
    list_any (has_null table.schema.columns) (new_rows statement catalog table)

-- ---- code 6

-- two rows of one key
pub record KeyClash : Type 0 where
  pub earlier : TableRow
  pub later : TableRow

abbrev pub shares_key : List ℕ → TableRow → TableRow → Bool
shares_key key later row = same_values (values_at key row.values) (values_at key later.values)

abbrev pub clash_or : Option TableRow → TableRow → Option KeyClash → Option KeyClash
clash_or None row next = next
clash_or (Some earlier) row next = Some (record { earlier = earlier; later = row })

abbrev pub clash_after : List ℕ → List TableRow → List TableRow → Option KeyClash
clash_after key before [] = None
clash_after key before (row ∷ rows) =
    clash_or (find (shares_key key row) before) row (clash_after key (before ++ row ∷ []) rows)

abbrev pub clash_by : List ℕ → List TableRow → Option KeyClash
clash_by [] rows = None
clash_by (place ∷ places) rows = clash_after (place ∷ places) [] rows

-- the first row, in number order, whose key an earlier row has
abbrev pub key_clash : Table → Option KeyClash
key_clash table = clash_by table.schema.key table.rows

abbrev pub key_refusal : Table → Option KeyClash → Option SqlRefusal
key_refusal table None = None
key_refusal table (Some clash) = Some (KeyTaken table.name (values_at table.schema.key clash.later.values))

-- ---- code 7

abbrev pub is_full : Statement → Table → Bool
is_full (TheQuery query) table = false
is_full (TheInsert insert) table = nat_lt max_next (table.next + length insert.rows)
is_full (TheUpdate update) table = false
is_full (TheDelete delete) table = false

-- ---- the first of the three

abbrev pub or_else : Option SqlRefusal → Option SqlRefusal → Option SqlRefusal
or_else None other = other
or_else (Some refusal) other = Some refusal

abbrev pub refusal_if : Bool → SqlRefusal → Option SqlRefusal
refusal_if b refusal = if b then Some refusal else None

-- what a statement's change of its table refuses
abbrev pub change_refusal : Statement → Catalog → Option Table → Option SqlRefusal
change_refusal statement catalog None = None
change_refusal statement catalog (Some table) =
    or_else (refusal_if (lacks_value statement catalog table) NotNull)
    (or_else (key_refusal table (key_clash (table_after statement catalog table)))
    (refusal_if (is_full statement table) Full))
