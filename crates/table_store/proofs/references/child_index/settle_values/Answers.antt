use Rattle.std.proofs.Common.{subst, List}
use Rattle.table_store.specs.inner.ChildPairs.{StayReferred, pair_by}
use Rattle.table_store.specs.Histories.{rows_now}
use Rattle.table_store.specs.Types.{Foreign}
use Rattle.table_store.proofs.references.child_index.settle_values.Goals as goal

pub loop-place-init : goal.loop-place-init
loop-place-init c = λ all. all

pub loop-place-preserved : goal.loop-place-preserved
loop-place-preserved c = λ all.
    let settled = subst (λ (l : List Foreign). StayReferred l (rows_now c.args.stored.now.slots) (pair_by c.loop-place.index l) (pair_by c.settle_at.new.index l))
    c.items-items.ensures c.settle_at.ensures in
    settled (c.loop-place.invariant all)
