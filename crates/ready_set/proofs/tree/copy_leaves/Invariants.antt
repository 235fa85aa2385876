use Rattle.ready_set.proofs.TreeLaws.{IsCopied}
use Rattle.ready_set.proofs.tree.copy_leaves.Given as goal

abbrev pub invariant-loop-number : goal.invariant-loop-number
invariant-loop-number l = IsCopied l.room l.counts l.wide l.number
