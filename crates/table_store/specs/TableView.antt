-- A table as it is stored.
use Rattle.std.specs.Prelude.{◌≡◌, ℕ, ◌<◌, ◌≤◌, Bool, List, [], ◌∷◌, length, map}
use Rattle.std.specs.Prelude.{slice_index_or}
use Rattle.row_version.specs.History.{IsSorted, last_time}
use Rattle.table_store.specs.Types.{Column, Schema, Table}
use Rattle.table_store.specs.Histories.{RowHistory, NextSince, TableHistory, no_history, last_next_number}
use Rattle.table_store.specs.Histories.{last_since, history_of_new_row, rows_now}
use Rattle.table_store.specs.inner.ChildPairs.{Pairs, AreReferred, pair_by}
use Rattle.table_store.specs.IndexView.{held_in}
use Rattle.table_store.specs.KeyIndex.{HeldKeys, AreIndexed}
use Rattle.table_store.specs.inner.Nexts.{nexts_of, AreInTime}
use Rattle.table_store.specs.inner.RowHistories.{RowsHistory}
use Rattle.table_store.specs.declared.table.TableStore.TheInside.{Inside}

abbrev pub seen_table : Inside → TableHistory
seen_table a = record {
  name = a.name;
  schema = a.schema;
  slots = a.rows.slots;
  nexts = nexts_of a.nexts.items;
}

-- the changes are sorted, and none is later than a time
pub record IsTimed (time : ℕ) (row : RowHistory) : Type 0 where
  pub sorted : IsSorted row.changes
  pub by : last_time row.changes ≤ time

abbrev pub AreTimed : ℕ → List RowHistory → Type 0
AreTimed time slots = (k : ℕ) → k < length slots → IsTimed time (slice_index_or slots k no_history)

abbrev pub kinds_in : List Column → List Bool
kinds_in columns = map (λ column. column.text) columns

-- the parts fit together
pub record IsStored (schema : Schema) (rows : RowsHistory) (held : HeldKeys) (pairs : Pairs)
    (nexts : List NextSince) : Type 0 where
  pub kinds : rows.kinds ≡ kinds_in schema.columns
  pub next : last_next_number nexts ≡ rows.next
  pub in_time : AreInTime nexts
  pub timed : AreTimed (last_since nexts) rows.slots
  pub indexed : AreIndexed schema.key held (rows_now rows.slots)
  pub referred : AreReferred pairs schema.foreign (rows_now rows.slots)

-- what the index has at a key
abbrev pub held_by : Inside → HeldKeys
held_by a = λ key. held_in a.index key

abbrev pub IsTable : Inside → Type 0
IsTable a =
    IsStored a.schema a.rows (held_by a) (pair_by a.children a.schema.foreign) (nexts_of a.nexts.items)

-- a table as it is at the start
abbrev pub history_at_start : Table → TableHistory
history_at_start table = record {
  name = table.name;
  schema = table.schema;
  slots = map (history_of_new_row 0) table.rows;
  nexts = record { time = 0; next = table.next } ∷ [];
}
