use Rattle.std.proofs.Common.{◌≡◌, take}
use Rattle.std.specs.BTreeMap.{get}
use Rattle.std.specs.BTreeSet.{contains}
use Rattle.std.specs.Ordering.{nat_cmp}
use Rattle.table_store.specs.Histories.{tables_now}
use Rattle.table_store.specs.inner.ParentSet.{RowName, kept_in_rows, name_order}
use Rattle.table_store.proofs.references.parent_set.kept_rows.Given as goal

abbrev pub invariant-loop-row : goal.invariant-loop-row
invariant-loop-row l = (row : RowName)
    → contains name_order l.found row ≡ kept_in_rows (get nat_cmp l.given) (tables_now l.store) l.own l.foreigns (take l.row-index l.rows) row
