-- The results of INSERT, UPDATE and DELETE over a store, and the store after them.
use Rattle.std.specs.Prelude.{◌≡◌, ℕ, ◌≤◌, List, [], map, length, Bool, true, false, IsTrue, Option, Some, None}
use Rattle.std.specs.Prelude.{Result, Ok, IfOk, OnOk, OnErr}
use Rattle.sql_model.specs.Changes.{numbered_rows, new_values, updated_row}
use Rattle.sql_model.specs.Needs.{Versions, need_of, made_by, updated_rows, versions_after, read_of}
use Rattle.sql_model.specs.Places.{checked_of}
use Rattle.sql_model.specs.Scope.{catalog_of}
use Rattle.sql_model.specs.Statements.{reply_of, after}
use Rattle.table_store.specs.Histories.{tables_now, history_at, AreKeptBefore}
use Rattle.table_store.specs.declared.error.StoreStop.{StoreStop}
use Rattle.table_store.specs.declared.error.StoreStop.TheVariants as stop
use Rattle.dml_versions.specs.inner.Finding.{scope_in, test_in, row_of, found_from}
use Rattle.dml_versions.specs.inner.Holding.{IsHeld}
use Rattle.dml_versions.specs.inner.Needing.{updated_member, inserted_member, with_key_rows, with_child_row}
use Rattle.dml_versions.specs.inner.Needing.{IsRowThere}
use Rattle.dml_versions.specs.Types.{Checked, Expr, Need, Reply, Changed, Refused, SqlRefusal}
use Rattle.dml_versions.specs.Types.{NotNull, KeyTaken, Full, NoParent, HasChild}
use Rattle.dml_versions.specs.Types.{Statement, TheQuery, TheInsert, TheUpdate, TheDelete, Insert, Update}
use Rattle.dml_versions.specs.Types.{Table, TableRow}
use Rattle.dml_versions.specs.Types.{Value, RowHistory, StoreHistory, TableHistory}
use Rattle.dml_versions.specs.Versions.{versions_now}
use Rattle.dml_versions.specs.declared.change.Change.{Change}
use Rattle.dml_versions.specs.declared.found.Found.{Found}

abbrev pub IsInsert : Statement → Type 0
IsInsert (TheQuery query) = ⊥
IsInsert (TheInsert insert) = Unit {0}
IsInsert (TheUpdate update) = ⊥
IsInsert (TheDelete delete) = ⊥

abbrev pub IsUpdate : Statement → Type 0
IsUpdate (TheQuery query) = ⊥
IsUpdate (TheInsert insert) = ⊥
IsUpdate (TheUpdate update) = Unit {0}
IsUpdate (TheDelete delete) = ⊥

abbrev pub IsDelete : Statement → Type 0
IsDelete (TheQuery query) = ⊥
IsDelete (TheInsert insert) = ⊥
IsDelete (TheUpdate update) = ⊥
IsDelete (TheDelete delete) = Unit {0}

-- a check against the tables gave the statement with its places
abbrev pub IsCheckedOver : List Table → Checked → Type 0
IsCheckedOver db checked = checked_of checked.statement (catalog_of db) ≡ Ok checked

-- the reply of a statement and, where they are kept, the versions that it makes and the rows that it needs at
-- their versions
pub record IsChange (statement : Statement) (keep : Bool) (store : StoreHistory)
    (change : Change) : Type 0 where
  pub reply : change.reply ≡ reply_of (Some statement) (tables_now store)
  pub made : IsTrue keep → change.made ≡ made_by (versions_now store) (Some statement) (tables_now store)
  pub needs : IsTrue keep
      → change.needs ≡ map (read_of (versions_now store)) (need_of (Some statement) (tables_now store))

-- the store after a statement at a time: its tables and their versions are those after the statement, and
-- what the tables were before the time stays
pub record IsStoreAfter (statement : Statement) (time : ℕ) (old new : StoreHistory) : Type 0 where
  pub tables : tables_now new ≡ after (Some statement) (tables_now old)
  pub versions : versions_now new
      ≡ versions_after (updated_rows (Some statement) (tables_now old)) (versions_now old)
  pub latest : new.time ≤ time
  pub earlier : AreKeptBefore time old new

-- what INSERT, UPDATE or DELETE returns at a time, and what it makes of the store, which is as it was where
-- memory is out
pub record ChangesStore {E : Type 0} (statement : Statement) (keep : Bool) (time : ℕ) (old new : StoreHistory)
    (result : Result Change E)
    : Type 0 where
  pub change : IfOk result (IsChange statement keep old)
  pub after : OnOk result (IsStoreAfter statement time old new)
  pub err : OnErr result (new ≡ old)

-- ---- on the way

-- what a statement gives where its lists are kept
pub record IsWhole (statement : Statement) (store : StoreHistory) (change : Change) : Type 0 where
  pub reply : change.reply ≡ reply_of (Some statement) (tables_now store)
  pub made : change.made ≡ made_by (versions_now store) (Some statement) (tables_now store)
  pub needs : change.needs ≡ map (read_of (versions_now store)) (need_of (Some statement) (tables_now store))

-- a change without its lists
abbrev pub reply_alone : Reply → Change
reply_alone reply = record { reply = reply; made = []; needs = [] }

-- a change with its lists, or with its reply alone
abbrev pub change_with_lists : Bool → Change → Change
change_with_lists true change = change
change_with_lists false change = reply_alone change.reply

-- the rows that WHERE matches in the table of a name
pub record AreFound (name : List ℕ) (pick : Option Expr) (store : StoreHistory) (found : List Found)
    : Type 0 where
  pub table : TableHistory
  pub there : history_at name store ≡ Some table
  pub held : IsHeld store.time table
  pub found_is : found ≡ found_from (test_in table pick) table.slots 0

-- where nothing refuses a change of matched rows that needs some rows
abbrev pub matched_change : List ℕ → List Found → List Need → Change
matched_change name found needs = record {
  reply = Changed (length found);
  made = map (updated_member name) found;
  needs = needs;
}

-- where nothing refuses new rows that need some rows
abbrev pub inserted_change : List ℕ → ℕ → List (List Value) → List Need → Change
inserted_change name next rows needs = record {
  reply = Changed (length rows);
  made = map (inserted_member name) (numbered_rows next rows);
  needs = needs;
}

abbrev pub refused_by : SqlRefusal → List Need → Change
refused_by refusal needs = record { reply = Refused refusal; made = []; needs = needs }

-- where the store refuses a change that needs matched rows and, with parents, all of these; nothing is said
-- where memory is out
abbrev pub refused_change :
    Versions → List ℕ → List RowHistory → List Need → List Need → StoreStop → Option Change
refused_change versions name slots needs all stop.NotNull = Some (refused_by NotNull needs)
refused_change versions name slots needs all (stop.KeyTaken earlier later key) =
    Some (refused_by (KeyTaken name key) (with_key_rows name slots earlier later needs))
refused_change versions name slots needs all stop.Full = Some (refused_by Full [])
refused_change versions name slots needs all (stop.NoParent table key) =
    Some (refused_by (NoParent table key) all)
refused_change versions name slots needs all (stop.HasChild table row key) =
    Some (refused_by (HasChild table key) (with_child_row versions table row all))
refused_change versions name slots needs all stop.NoMemory = None

-- a child row that refuses is there
abbrev pub IsChildThere : List Table → StoreStop → Type 0
IsChildThere db stop.NotNull = Unit {0}
IsChildThere db (stop.KeyTaken earlier later key) = Unit {0}
IsChildThere db stop.Full = Unit {0}
IsChildThere db (stop.NoParent table key) = Unit {0}
IsChildThere db (stop.HasChild table row key) = IsRowThere db table row
IsChildThere db stop.NoMemory = Unit {0}

-- the rows that an UPDATE matches, and what it makes of them
pub record ArePrepared (update : Update) (store : StoreHistory) (found : List Found) (rows : List TableRow)
    : Type 0 where
  pub table : TableHistory
  pub there : history_at update.table store ≡ Some table
  pub held : IsHeld store.time table
  pub found_is : found ≡ found_from (test_in table update.pick) table.slots 0
  pub rows_are : rows ≡ map (updated_row (scope_in table) update table.schema.columns) (map row_of found)

-- the values of the new rows of an INSERT
pub record AreNewRows (insert : Insert) (store : StoreHistory) (rows : List (List Value)) : Type 0 where
  pub table : TableHistory
  pub there : history_at insert.table store ≡ Some table
  pub held : IsHeld store.time table
  pub rows_are : rows ≡ map (new_values insert.columns table.schema.columns) insert.rows
