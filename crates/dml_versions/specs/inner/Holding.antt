-- Properties of each table of a store.
use Rattle.std.specs.Prelude.{ℕ}
use Rattle.table_store.specs.Histories.{last_next_number}
use Rattle.table_store.specs.RowOrder.{AreInOrder}
use Rattle.table_store.specs.TableView.{AreTimed}
use Rattle.dml_versions.specs.Types.{TableHistory}

-- its rows are in the order of their numbers, and none has changed after a time
pub record IsHeld (time : ℕ) (table : TableHistory) : Type 0 where
  pub order : AreInOrder table.slots (last_next_number table.nexts)
  pub timed : AreTimed time table.slots
