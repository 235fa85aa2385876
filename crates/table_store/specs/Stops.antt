-- The tables after changes, and the refusals of changes, in terms of the meaning of statements.
use Rattle.std.specs.Prelude.{◌≡◌, ℕ, ◌+◌, ◌++◌, ◌&&◌, ◌==◌, Bool, not, List, length, map, filter, find}
use Rattle.std.specs.Prelude.{Option, Some, None, unwrap_or, Result, Ok, Err, if◌then◌else◌, nat_lt}
use Rattle.std.specs.List.{list_any, list_all}
use Rattle.std.specs.Option.{option_or}
use Rattle.ldv_value.specs.Limits.{max_next}
use Rattle.ldv_value.specs.Sorted.{is_strictly_sorted}
use Rattle.sql_model.specs.Changes.{KeyClash, has_null, key_clash, numbered_rows, had_row, with_rows}
use Rattle.sql_model.specs.Keys.{values_at}
use Rattle.sql_model.specs.Scope.{is_table}
use Rattle.sql_model.specs.Tables.{each_value, has_kind}
use Rattle.table_store.specs.Types.{Value, Column, Table, TableRow}
use Rattle.table_store.specs.declared.error.StoreStop.{StoreStop}
use Rattle.table_store.specs.declared.error.StoreStop.TheVariants.{NotNull, KeyTaken, Full, NoParent}
use Rattle.table_store.specs.declared.error.StoreStop.TheVariants.{HasChild, NoMemory}

-- one value for each column, of its kind
abbrev pub has_shape : List Column → List Value → Bool
has_shape columns values = (length values == length columns) && each_value has_kind columns values

abbrev pub stop_if : Bool → StoreStop → Option StoreStop
stop_if b stop = if b then Some stop else None

-- the number of a row, if it stood in a table
abbrev pub stood_number : Table → TableRow → Option ℕ
stood_number table row = if had_row table row then Some row.number else None

-- two rows of one key, with the numbers of those that stood in the table before
abbrev pub key_stop : Table → Option KeyClash → Option StoreStop
key_stop before None = None
key_stop before (Some clash) =
    Some (KeyTaken (stood_number before clash.earlier) (stood_number before clash.later)
    (values_at before.schema.key clash.later.values))

-- ---- tables after a change

-- the table with rows more
abbrev pub with_inserted : List (List Value) → Table → Table
with_inserted rows table = with_rows table (table.rows
    ++ numbered_rows table.next rows) (table.next + length rows)

-- a row, or the one of its number among others
abbrev pub replaced_by : List TableRow → TableRow → TableRow
replaced_by rows row = unwrap_or (find (λ new. new.number == row.number) rows) row

-- the table where rows have the values that are given for their numbers
abbrev pub with_replaced : List TableRow → Table → Table
with_replaced rows table = with_rows table (map (replaced_by rows) table.rows) table.next

abbrev pub is_among : List ℕ → TableRow → Bool
is_among numbers row = list_any (λ number. number == row.number) numbers

-- the table without the rows of these numbers
abbrev pub with_removed : List ℕ → Table → Table
with_removed numbers table =
    with_rows table (filter (λ row. not (is_among numbers row)) table.rows) table.next

-- the tables where that of a name is changed
abbrev pub with_changed : List ℕ → (Table → Table) → List Table → List Table
with_changed name change db = map (λ table. if is_table name table then change table else table) db

-- ---- what is given

-- each row has one value for each column, of its kind
abbrev pub have_shape : List (List Value) → Table → Bool
have_shape rows table = list_all (has_shape table.schema.columns) rows

abbrev pub values_of : List TableRow → List (List Value)
values_of rows = map (λ row. row.values) rows

abbrev pub are_sorted_rows : List TableRow → Bool
are_sorted_rows rows = is_strictly_sorted (λ a b. nat_lt a.number b.number) rows

abbrev pub are_sorted_numbers : List ℕ → Bool
are_sorted_numbers numbers = is_strictly_sorted nat_lt numbers

-- a number is that of a row of the table
abbrev pub has_number : Table → ℕ → Bool
has_number table number = list_any (λ row. row.number == number) table.rows

-- each row has the number of a row of the table
abbrev pub had_rows : List TableRow → Table → Bool
had_rows rows table = list_all (had_row table) rows

abbrev pub all_stand : List ℕ → Table → Bool
all_stand numbers table = list_all (has_number table) numbers

-- ---- what refuses a change, by the rows of its own table

-- what refuses new rows
abbrev pub insert_stop : List (List Value) → Table → Option StoreStop
insert_stop rows table =
    option_or (stop_if (list_any (has_null table.schema.columns) (numbered_rows table.next rows)) NotNull)
    (option_or (key_stop table (key_clash (with_inserted rows table)))
    (stop_if (nat_lt max_next (table.next + length rows)) Full))

-- what refuses new values of rows; their number is never too large
abbrev pub replace_stop : List TableRow → Table → Option StoreStop
replace_stop rows table =
    option_or (stop_if (list_any (has_null table.schema.columns) rows) NotNull)
    (key_stop table (key_clash (with_replaced rows table)))

-- the result is refused exactly as is due, but that memory may be out
abbrev pub StopsAs : {X : Type 0} → Option StoreStop → Result X StoreStop → Type 0
StopsAs due (Ok x) = due ≡ None
StopsAs due (Err NotNull) = due ≡ Some NotNull
StopsAs due (Err (KeyTaken earlier later key)) = due ≡ Some (KeyTaken earlier later key)
StopsAs due (Err Full) = due ≡ Some Full
StopsAs due (Err (NoParent table key)) = due ≡ Some (NoParent table key)
StopsAs due (Err (HasChild table row key)) = due ≡ Some (HasChild table row key)
StopsAs due (Err NoMemory) = Unit {0}
