use Rattle.std.proofs.Common.{◌+◌}
use Rattle.ready_set.proofs.TreeLaws.{IsRecounted}
use Rattle.ready_set.proofs.tree.set_leaf.Given as goal

abbrev pub invariant-loop-node : goal.invariant-loop-node
invariant-loop-node l = IsRecounted l.room (l.room + l.number) l.count l.fn.counts l.node l.counts

abbrev pub decreases-loop-node : goal.decreases-loop-node
decreases-loop-node l = l.node
