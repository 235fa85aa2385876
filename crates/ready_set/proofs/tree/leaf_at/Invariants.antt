use Rattle.ready_set.proofs.WayLaws.{IsOnWayDown}
use Rattle.ready_set.proofs.tree.leaf_at.Given as goal

abbrev pub invariant-loop-level : goal.invariant-loop-level
invariant-loop-level l = IsOnWayDown l.height l.counts l.k l._level l.place.node l.place.before
