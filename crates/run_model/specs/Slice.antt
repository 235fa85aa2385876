-- What a run needs of its world, read off its events: the initial files, tables and rows.
use Rattle.std.specs.Prelude.{ℕ, ◌==◌, List, [], ◌∷◌, map, filter, Bool, false, not, ◌&&◌, ◌||◌}
use Rattle.std.specs.Prelude.{if◌then◌else◌, Option, Some, None, option_map}
use Rattle.std.specs.List.{list_any, filter_map}
use Rattle.std.specs.Option.{option_or}
use Rattle.sql_model.specs.Scope.{same_text}
use Rattle.run_model.specs.Types.{File, Need, Rule, Table, TableRow, Event, PackedFile, PackedRow}
use Rattle.run_model.specs.Types.{PackedTable}
use Rattle.run_model.specs.Types.{Act, Started, Spawned, Unspawned, OpenedRead, OpenedWrite, OpenedAppend}
use Rattle.run_model.specs.Types.{OpenedNew, Unopened, Read, Wrote, Removed, Tested, Waited, Ended, Asked}

-- ---- files

-- the path of a file whose bytes the act rests on
abbrev pub whole_path : Act → Option (List ℕ)
whole_path (Started path) = Some path
whole_path (Spawned path) = Some path
whole_path (Unspawned path found) = if found then Some path else None
whole_path (OpenedRead path) = Some path
whole_path (OpenedWrite path) = None
whole_path (OpenedAppend path found) = if found then Some path else None
whole_path (OpenedNew path) = None
whole_path (Unopened path found) = None
whole_path (Read path) = None
whole_path (Wrote path) = None
whole_path (Removed path) = None
whole_path (Tested path found) = None
whole_path (Waited child) = None
whole_path (Ended status) = None
whole_path (Asked statement tables reads made) = None

-- the path of a file that the act finds, whatever is in it
abbrev pub present_path : Act → Option (List ℕ)
present_path (Started path) = None
present_path (Spawned path) = None
present_path (Unspawned path found) = None
present_path (OpenedRead path) = None
present_path (OpenedWrite path) = None
present_path (OpenedAppend path found) = None
present_path (OpenedNew path) = None
present_path (Unopened path found) = if found then Some path else None
present_path (Read path) = None
present_path (Wrote path) = None
present_path (Removed path) = Some path
present_path (Tested path found) = if found then Some path else None
present_path (Waited child) = None
present_path (Ended status) = None
present_path (Asked statement tables reads made) = None

-- the path of a file that is no longer the initial one after the act
abbrev pub changed_path : Act → Option (List ℕ)
changed_path (Started path) = None
changed_path (Spawned path) = None
changed_path (Unspawned path found) = None
changed_path (OpenedRead path) = None
changed_path (OpenedWrite path) = Some path
changed_path (OpenedAppend path found) = Some path
changed_path (OpenedNew path) = Some path
changed_path (Unopened path found) = None
changed_path (Read path) = None
changed_path (Wrote path) = None
changed_path (Removed path) = Some path
changed_path (Tested path found) = None
changed_path (Waited child) = None
changed_path (Ended status) = None
changed_path (Asked statement tables reads made) = None

abbrev pub is_path : List ℕ → Option (List ℕ) → Bool
is_path path None = false
is_path path (Some other) = same_text other path

-- an act names the path so, before an earlier event changes it
abbrev pub names_initial : (Act → Option (List ℕ)) → List ℕ → List Event → Bool
names_initial path_in path [] = false
names_initial path_in path (e ∷ es) =
    is_path path (path_in e.act) || not (is_path path (changed_path e.act)) && names_initial path_in path es

-- a whole need goes before a present one
pub data FileNeed : Type 0 where
  Whole : FileNeed
  Present : FileNeed

abbrev pub file_need : List ℕ → List Event → Option FileNeed
file_need path events =
    if names_initial whole_path path events then Some Whole
    else if names_initial present_path path events then Some Present
    else None

abbrev pub packed_as : File → FileNeed → PackedFile
packed_as file Whole = record { path = file.path; content = Some file.content }
packed_as file Present = record { path = file.path; content = None }

abbrev pub packed_file : List Event → File → Option PackedFile
packed_file events file = option_map (packed_as file) (file_need file.path events)

-- the initial files that the run needed
abbrev pub files_needed : List Event → List File → List PackedFile
files_needed events files = filter_map (packed_file events) files

-- ---- rows

-- the statement that needs a row, and its rule
pub record Reason : Type 0 where
  pub statement : ℕ
  pub rule : Rule

abbrev pub is_read : List ℕ → ℕ → Need → Bool
is_read table row need = same_text need.member.table table && need.member.row == row

abbrev pub reason_in : ℕ → List ℕ → ℕ → List Need → Option Reason
reason_in statement table row [] = None
reason_in statement table row (need ∷ needs) =
    if is_read table row need then Some (record { statement = statement; rule = need.rule })
    else reason_in statement table row needs

abbrev pub act_reason : List ℕ → ℕ → Act → Option Reason
act_reason table row (Started path) = None
act_reason table row (Spawned path) = None
act_reason table row (Unspawned path found) = None
act_reason table row (OpenedRead path) = None
act_reason table row (OpenedWrite path) = None
act_reason table row (OpenedAppend path found) = None
act_reason table row (OpenedNew path) = None
act_reason table row (Unopened path found) = None
act_reason table row (Read path) = None
act_reason table row (Wrote path) = None
act_reason table row (Removed path) = None
act_reason table row (Tested path found) = None
act_reason table row (Waited child) = None
act_reason table row (Ended status) = None
act_reason table row (Asked statement tables reads made) = reason_in statement table row reads

-- of the first statement that needs the row
abbrev pub first_reason : List ℕ → ℕ → List Event → Option Reason
first_reason table row [] = None
first_reason table row (e ∷ es) = option_or (act_reason table row e.act) (first_reason table row es)

abbrev pub packed_because : TableRow → Reason → PackedRow
packed_because row reason = record {
  number = row.number;
  statement = reason.statement;
  rule = reason.rule;
  values = row.values;
}

abbrev pub packed_row : List Event → List ℕ → TableRow → Option PackedRow
packed_row events table row = option_map (packed_because row) (first_reason table row.number events)

-- the initial rows of a table that the run needed
abbrev pub rows_needed : List Event → List ℕ → List TableRow → List PackedRow
rows_needed events table rows = filter_map (packed_row events table) rows

-- ---- tables

-- an act asks the table of a name
abbrev pub asks_table : List ℕ → Act → Bool
asks_table table (Started path) = false
asks_table table (Spawned path) = false
asks_table table (Unspawned path found) = false
asks_table table (OpenedRead path) = false
asks_table table (OpenedWrite path) = false
asks_table table (OpenedAppend path found) = false
asks_table table (OpenedNew path) = false
asks_table table (Unopened path found) = false
asks_table table (Read path) = false
asks_table table (Wrote path) = false
asks_table table (Removed path) = false
asks_table table (Tested path found) = false
asks_table table (Waited child) = false
asks_table table (Ended status) = false
asks_table table (Asked statement tables reads made) = list_any (λ name. same_text name table) tables

-- some statement asked it
abbrev pub is_table_needed : List Event → List ℕ → Bool
is_table_needed events table = list_any (λ e. asks_table table e.act) events

abbrev pub packed_table : List Event → Table → PackedTable
packed_table events table = record {
  name = table.name;
  schema = table.schema;
  next = table.next;
  rows = rows_needed events table.name table.rows;
}

-- the initial tables that the run asked, with their needed rows
abbrev pub tables_needed : List Event → List Table → List PackedTable
tables_needed events tables =
    map (packed_table events) (filter (λ table. is_table_needed events table.name) tables)
