use Rattle.std.proofs.Common.{◌≡◌, List, take}
use Rattle.table_store.specs.Types.{Value}
use Rattle.table_store.specs.inner.Afterwards.{in_set}
use Rattle.table_store.specs.inner.ParentSet.{asks_in_rows}
use Rattle.table_store.proofs.references.parent_set.asked_keys.Given as goal

abbrev pub invariant-loop-row : goal.invariant-loop-row
invariant-loop-row l = (key : List Value) → in_set l.asked key ≡ asks_in_rows l.own l.foreigns (take l.row-index l.rows) key
