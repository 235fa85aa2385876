-- The tables of a store, as they are stored.
use Rattle.std.specs.Prelude.{◌≡◌, ℕ, ◌<◌, ◌≤◌, Bool, true, List, [], length, map, slice_index_or}
use Rattle.ldv_value.specs.Sorted.{is_strictly_sorted, text_precedes}
use Rattle.sql_model.specs.Scope.{catalog_of}
use Rattle.sql_model.specs.Tables.{AreWellFormed}
use Rattle.table_store.specs.Types.{Catalog, Table}
use Rattle.table_store.specs.Histories.{TableHistory, StoreHistory, table_now, last_since}
use Rattle.table_store.specs.TableView.{history_at_start}
use Rattle.table_store.specs.declared.store.Store.TheInside.{Inside}

abbrev pub no_table : TableHistory
no_table = record {
  name = [];
  schema = record { columns = []; key = []; foreign = [] };
  slots = [];
  nexts = [];
}

abbrev pub seen_store : Inside → StoreHistory
seen_store a = record { tables = a.tables.items; time = a.time }

abbrev pub are_sorted : List TableHistory → Bool
are_sorted tables = is_strictly_sorted (λ a b. text_precedes a.name b.name) tables

-- the parts fit together
pub record AreStored (catalog : Catalog) (tables : List TableHistory) (time : ℕ) : Type 0 where
  pub catalog_is : catalog ≡ catalog_of (map table_now tables)
  pub sorted : are_sorted tables ≡ true
  pub formed : AreWellFormed (map table_now tables)
  pub timed : (k : ℕ) → k < length tables → last_since (slice_index_or tables k no_table).nexts ≤ time

abbrev pub IsStore : Inside → Type 0
IsStore a = AreStored a.catalog a.tables.items a.time

-- tables as they are at the start
abbrev pub store_at_start : List Table → StoreHistory
store_at_start tables = record { tables = map history_at_start tables; time = 0 }
