use Rattle.std.proofs.Common.{◌+◌, arith}
use Rattle.ready_set.proofs.TreeLaws.{recount_small}
use Rattle.ready_set.proofs.tree.set_leaf.Goals as goal

-- both children count at most as many leaves as there are
pub overflow_add-counts-in-loop-node : goal.overflow_add-counts-in-loop-node
overflow_add-counts-in-loop-node c = record {
  fits = omega (arith, recount_small c.args.room (c.args.room + c.args.number) c.args.count c.args.counts.now c.loop-node.node c.loop-node.counts c.requires.tree c.requires.small c.loop-node.invariant (omega arith) (omega arith) c.loop-node-test.true);
}
