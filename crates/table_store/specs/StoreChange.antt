-- A change of one table of a store, and the references that may refuse it.
use Rattle.std.specs.Prelude.{◌≡◌, ℕ, List, Option, Result, OnOk, OnErr}
use Rattle.std.specs.Option.{option_and_then}
use Rattle.sql_model.specs.Scope.{table_at}
use Rattle.table_store.specs.Histories.{AreKeptBefore, changed_at, tables_now}
use Rattle.table_store.specs.Histories.{StoreHistory, TableHistory}
use Rattle.table_store.specs.Stops.{StopsAs, with_changed}
use Rattle.table_store.specs.Types.{Table}
use Rattle.table_store.specs.declared.error.StoreStop.{StoreStop}

-- What becomes of a store where the table of a name is changed at a time: its history, and by that the table
-- as it is now. Where something refuses the change, or memory is out, the store is as it was.
pub record IsStoreChange {X : Type 0}
    (refusal : Table → Option StoreStop) (change : TableHistory → TableHistory) (now_by : Table → Table)
    (name : List ℕ) (time : ℕ) (old new : StoreHistory) (result : Result X StoreStop)
    : Type 0 where
  pub stop : StopsAs (option_and_then refusal (table_at name (tables_now old))) result
  pub ok : OnOk result (new ≡ changed_at time name change old)
  pub now : OnOk result (tables_now new ≡ with_changed name now_by (tables_now old))
  -- what the tables were before the time stays
  pub earlier : OnOk result (AreKeptBefore time old new)
  pub err : OnErr result (new ≡ old)
