use Rattle.std.proofs.Common.{take}
use Rattle.table_store.specs.inner.ChildPairs.{AreReferred, KeepPairs, pair_by}
use Rattle.table_store.proofs.references.child_index.add_all.Given as goal

abbrev pub invariant-loop-row : goal.invariant-loop-row
invariant-loop-row l = record {
  kept : KeepPairs (pair_by l.fn.index l.foreigns) (pair_by l.index l.foreigns);
  rows : AreReferred (pair_by l.index l.foreigns) l.foreigns (take l.row-index l.rows);
}
