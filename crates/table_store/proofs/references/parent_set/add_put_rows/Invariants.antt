use Rattle.std.proofs.Common.{◌≡◌, ◌||◌, take}
use Rattle.std.specs.BTreeMap.{get}
use Rattle.std.specs.BTreeSet.{contains}
use Rattle.std.specs.Ordering.{nat_cmp}
use Rattle.table_store.specs.Histories.{table_now}
use Rattle.table_store.specs.inner.Afterwards.{in_set}
use Rattle.table_store.specs.inner.ParentSet.{RowName, name_order, put_in_rows}
use Rattle.table_store.proofs.references.parent_set.add_put_rows.Given as goal

abbrev pub invariant-loop-row : goal.invariant-loop-row
invariant-loop-row l = (row : RowName) → contains name_order l.found row
    ≡ (contains name_order l.fn.found row || put_in_rows (in_set l.asked) (get nat_cmp l.given) (table_now l.own) (take l.row-index l.rows) row)
