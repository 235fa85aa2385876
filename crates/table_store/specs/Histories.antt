-- Tables through time: the changes of each row, and the numbers of each table's next row.
--
-- The store's contracts only use functions of these: the tables now or after a time, and the versions of
-- their rows.
use Rattle.std.specs.Prelude.{◌≡◌, ℕ, ◌==◌, ◌+◌, ◌<◌, length, Bool, List, [], ◌∷◌, ◌++◌, Option, Some, None}
use Rattle.std.specs.Prelude.{map, find, filter, nat_le, if◌then◌else◌, is_some}
use Rattle.std.specs.List.{filter_map, last_or, position}
use Rattle.std.specs.Option.{option_map_or, option_map}
use Rattle.row_version.specs.History.{Change, write_at, delete_at, current_values, as_of, version}
use Rattle.sql_model.specs.Changes.{numbered_rows}
use Rattle.sql_model.specs.Scope.{same_text}
use Rattle.table_store.specs.Types.{Value, Schema, Table, TableRow}

-- a row by its number, with the changes of its values, sorted by time
pub record RowHistory : Type 0 where
  pub number : ℕ
  pub changes : List Change

-- from the time on this is the number of the next row
pub record NextSince : Type 0 where
  pub time : ℕ
  pub next : ℕ

-- a table with all rows that it ever held, sorted by number, each in its slot
pub record TableHistory : Type 0 where
  pub name : List ℕ
  pub schema : Schema
  pub slots : List RowHistory
  pub nexts : List NextSince

-- the tables, sorted by name, and the time of the last change
pub record StoreHistory : Type 0 where
  pub tables : List TableHistory
  pub time : ℕ

-- ---- rows

abbrev pub no_history : RowHistory
no_history = record { number = 0; changes = [] }

abbrev pub numbered_row : ℕ → List Value → TableRow
numbered_row number values = record { number = number; values = values }

-- the row of a number that has values
abbrev pub row_of : ℕ → Option (List Value) → Option TableRow
row_of number values = option_map (numbered_row number) values

-- the row as it is now, if it stands
abbrev pub row_now : RowHistory → Option TableRow
row_now row = row_of row.number (current_values row.changes)

-- the row as it was after a time, if it stood
abbrev pub row_as_of : ℕ → RowHistory → Option TableRow
row_as_of time row = row_of row.number (as_of row.changes time)

abbrev pub rows_now : List RowHistory → List TableRow
rows_now slots = filter_map row_now slots

abbrev pub rows_as_of : ℕ → List RowHistory → List TableRow
rows_as_of time slots = filter_map (row_as_of time) slots

-- the version of a row that stands: how often it has changed
abbrev pub version_now : Option RowHistory → Option ℕ
version_now None = None
version_now (Some row) = if is_some (current_values row.changes) then Some (version row.changes) else None

abbrev pub is_of_number : ℕ → RowHistory → Bool
is_of_number number row = row.number == number

-- the row of a number
abbrev pub history_of_row : ℕ → List RowHistory → Option RowHistory
history_of_row number slots = find (is_of_number number) slots

-- the slot of the row of a number
abbrev pub slot_of_row : ℕ → List RowHistory → Option ℕ
slot_of_row number slots = position (is_of_number number) slots

-- ---- the number of the next row

abbrev pub last_next_number : List NextSince → ℕ
last_next_number nexts = option_map_or (λ since. since.next) (last_or None nexts) 0

-- the time of the last change
abbrev pub last_since : List NextSince → ℕ
last_since nexts = option_map_or (λ since. since.time) (last_or None nexts) 0

-- after a time
abbrev pub next_as_of : ℕ → List NextSince → ℕ
next_as_of time nexts = last_next_number (filter (λ since. nat_le since.time time) nexts)

-- ---- changes of rows

-- a row that is added
abbrev pub history_of_new_row : ℕ → TableRow → RowHistory
history_of_new_row time row = record { number = row.number; changes = write_at time row.values ∷ [] }

abbrev pub with_change : Option (ℕ × Change) → RowHistory → RowHistory
with_change None row = row
with_change (Some change) row = record { number = row.number; changes = row.changes ++ change.1 ∷ [] }

-- a row with the change that is given for its number, if there is one
abbrev pub changed_by : List (ℕ × Change) → RowHistory → RowHistory
changed_by changes row = with_change (find (λ change. change.0 == row.number) changes) row

abbrev pub row_write : ℕ → TableRow → ℕ × Change
row_write time row = (row.number, write_at time row.values)

-- the rows where those of these numbers have other values since a time
abbrev pub rows_with_values : ℕ → List TableRow → List RowHistory → List RowHistory
rows_with_values time rows slots = map (changed_by (map (row_write time) rows)) slots

abbrev pub row_delete : ℕ → ℕ → ℕ × Change
row_delete time number = (number, delete_at time)

-- the rows where those of these numbers are dropped at a time
abbrev pub rows_without : ℕ → List ℕ → List RowHistory → List RowHistory
rows_without time numbers slots = map (changed_by (map (row_delete time) numbers)) slots

-- ---- tables

-- the table as it is now
abbrev pub table_now : TableHistory → Table
table_now table = record {
  name = table.name;
  schema = table.schema;
  rows = rows_now table.slots;
  next = last_next_number table.nexts;
}

-- a change of the table at a time, after which this is the number of the next row
abbrev pub nexts_with : ℕ → ℕ → List NextSince → List NextSince
nexts_with time next nexts = nexts ++ record { time = time; next = next } ∷ []

-- the table with rows more, numbered from the number of the next row on
abbrev pub table_with_rows : ℕ → List (List Value) → TableHistory → TableHistory
table_with_rows time rows table = record {
  name = table.name;
  schema = table.schema;
  slots = table.slots ++ map (history_of_new_row time) (numbered_rows (last_next_number table.nexts) rows);
  nexts = nexts_with time (last_next_number table.nexts + length rows) table.nexts;
}

-- the table where the rows of these numbers have other values
abbrev pub table_with_values : ℕ → List TableRow → TableHistory → TableHistory
table_with_values time rows table = record {
  name = table.name;
  schema = table.schema;
  slots = rows_with_values time rows table.slots;
  nexts = nexts_with time (last_next_number table.nexts) table.nexts;
}

-- the table without the rows of these numbers
abbrev pub table_without : ℕ → List ℕ → TableHistory → TableHistory
table_without time numbers table = record {
  name = table.name;
  schema = table.schema;
  slots = rows_without time numbers table.slots;
  nexts = nexts_with time (last_next_number table.nexts) table.nexts;
}

-- ---- stores

abbrev pub tables_now : StoreHistory → List Table
tables_now store = map table_now store.tables

abbrev pub is_history : List ℕ → TableHistory → Bool
is_history name table = same_text table.name name

-- the table of a name
abbrev pub history_at : List ℕ → StoreHistory → Option TableHistory
history_at name store = find (is_history name) store.tables

abbrev pub in_table : List ℕ → (TableHistory → TableHistory) → TableHistory → TableHistory
in_table name change table = if is_history name table then change table else table

-- the store after a change of the table of a name at a time
abbrev pub changed_at : ℕ → List ℕ → (TableHistory → TableHistory) → StoreHistory → StoreHistory
changed_at time name change store = record { tables = map (in_table name change) store.tables; time = time }

-- the rows of a table after a time
abbrev pub rows_after : List ℕ → ℕ → StoreHistory → Option (List TableRow)
rows_after name time store = option_map (λ history. rows_as_of time history.slots) (history_at name store)

-- the number of its next row after a time
abbrev pub next_number_after : List ℕ → ℕ → StoreHistory → Option ℕ
next_number_after name time store =
    option_map (λ history. next_as_of time history.nexts) (history_at name store)

-- what tables were before a time is what they were in another store
abbrev pub AreKeptBefore : ℕ → StoreHistory → StoreHistory → Type 0
AreKeptBefore time old new = (name : List ℕ) (earlier : ℕ) → earlier < time
    → (rows_after name earlier new ≡ rows_after name earlier old)
    × (next_number_after name earlier new ≡ next_number_after name earlier old)
