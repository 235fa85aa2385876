use Rattle.table_store.specs.inner.ChildPairs.{KeepPairs, pair_in}
use Rattle.table_store.proofs.ChildIndexLaws.{IsReferredBy}
use Rattle.table_store.proofs.references.child_index.add_row.Given as goal

abbrev pub invariant-loop-place : goal.invariant-loop-place
invariant-loop-place l = record {
  kept : KeepPairs (pair_in l.fn.index) (pair_in l.index);
  referred : IsReferredBy (pair_in l.index) l.foreigns l.row l.place;
}
