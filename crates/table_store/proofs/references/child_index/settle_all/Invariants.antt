use Rattle.table_store.specs.inner.ChildPairs.{StayReferred, pair_by}
use Rattle.table_store.specs.Histories.{rows_now}
use Rattle.table_store.proofs.references.child_index.settle_all.Given as goal

abbrev pub invariant-loop-number : goal.invariant-loop-number
invariant-loop-number l = StayReferred l.foreigns (rows_now l.stored.slots) (pair_by l.fn.index l.foreigns) (pair_by l.index l.foreigns)
