use Rattle.std.proofs.Common.{◌≡◌, ◌||◌, List, take}
use Rattle.table_store.specs.Types.{Value}
use Rattle.table_store.specs.inner.Afterwards.{in_set}
use Rattle.table_store.specs.inner.ParentSet.{asks_in_row}
use Rattle.table_store.proofs.references.parent_set.ask_in_row.Given as goal

abbrev pub invariant-loop-foreign : goal.invariant-loop-foreign
invariant-loop-foreign l = (key : List Value)
    → in_set l.asked key ≡ (in_set l.fn.asked key || asks_in_row l.own (take l.foreign-index l.foreign-items) l.values key)
