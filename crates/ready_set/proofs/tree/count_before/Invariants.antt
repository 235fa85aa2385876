use Rattle.ready_set.proofs.WayLaws.{IsOnWayUp}
use Rattle.ready_set.proofs.tree.count_before.Given as goal

abbrev pub invariant-loop-level : goal.invariant-loop-level
invariant-loop-level l = IsOnWayUp l.height l.counts l.leaf l._level l.node l.total
