use Rattle.std.proofs.Common.{◌≡◌, length}
use Rattle.std.specs.Cmp.Lexicographic.{pointwise}
use Rattle.joined_data.proofs.differences.are_same.Given as goal

abbrev pub invariant-loop-left : goal.invariant-loop-left
invariant-loop-left g l = pointwise g.X.SameAs.same l.left l.right ≡ pointwise g.X.SameAs.same l.a l.b

abbrev pub decreases-loop-left : goal.decreases-loop-left
decreases-loop-left g l = length l.left
