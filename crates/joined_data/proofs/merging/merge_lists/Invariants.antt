use Rattle.std.proofs.Common.{◌≡◌, ◌+◌, ◌++◌, length}
use Rattle.joined_data.specs.Merging.{merged, queue_with}
use Rattle.joined_data.proofs.merging.merge_lists.Given as goal

abbrev pub invariant-loop-left : goal.invariant-loop-left
invariant-loop-left g l =
    l.made ++ merged g.X.Mergeable.key_cmp g.X.Mergeable.both (queue_with l.left l.xs) (queue_with l.right l.ys) ≡ merged g.X.Mergeable.key_cmp g.X.Mergeable.both l.fn.first l.fn.second

abbrev pub decreases-loop-left : goal.decreases-loop-left
decreases-loop-left g l = length (queue_with l.left l.xs) + length (queue_with l.right l.ys)
