use Rattle.std.proofs.Common.{◌≡◌, ◌++◌, map, true}
use Rattle.std.specs.BTreeSet.{btree_set_len, contains}
use Rattle.std.specs.List.{AllByRecursion}
use Rattle.table_store.specs.Referring.{IsAtVersion}
use Rattle.table_store.specs.inner.ParentSet.{RowName, name_order, named_now}
use Rattle.table_store.proofs.references.parent_set.members_of.Given as goal

abbrev pub invariant-loop-table : goal.invariant-loop-table
invariant-loop-table l = record {
  fewer : (row : RowName) → contains name_order l.left row ≡ true → contains name_order l.fn.found row ≡ true;
  versions : AllByRecursion (IsAtVersion l.store) l.members;
  members : l.members ++ map (named_now l.store) l.left.keys ≡ map (named_now l.store) l.fn.found.keys;
}

abbrev pub decreases-loop-table : goal.decreases-loop-table
decreases-loop-table l = btree_set_len l.left
