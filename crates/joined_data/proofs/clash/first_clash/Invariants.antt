use Rattle.std.proofs.Common.{◌≡◌, ◌+◌, length}
use Rattle.joined_data.specs.Merging.{first_clash}
use Rattle.joined_data.proofs.clash.first_clash.Given as goal

abbrev pub invariant-loop-left : goal.invariant-loop-left
invariant-loop-left g l =
    first_clash g.X.Mergeable.key_cmp (g.T.ClashTest.differ l.test) l.left l.right ≡ first_clash g.X.Mergeable.key_cmp (g.T.ClashTest.differ l.test) l.first l.second

abbrev pub decreases-loop-left : goal.decreases-loop-left
decreases-loop-left g l = length l.left + length l.right
