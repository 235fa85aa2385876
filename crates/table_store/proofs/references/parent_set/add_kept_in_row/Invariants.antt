use Rattle.std.proofs.Common.{◌≡◌, ◌||◌, take}
use Rattle.std.specs.BTreeMap.{get}
use Rattle.std.specs.BTreeSet.{contains}
use Rattle.std.specs.Ordering.{nat_cmp}
use Rattle.table_store.specs.Histories.{tables_now}
use Rattle.table_store.specs.inner.ParentSet.{RowName, kept_in_row, name_order}
use Rattle.table_store.proofs.references.parent_set.add_kept_in_row.Given as goal

abbrev pub invariant-loop-foreign : goal.invariant-loop-foreign
invariant-loop-foreign l = (row : RowName) → contains name_order l.found row
    ≡ (contains name_order l.fn.found row || kept_in_row (get nat_cmp l.given) (tables_now l.store) l.own (take l.foreign-index l.foreign-items) l.values row)
