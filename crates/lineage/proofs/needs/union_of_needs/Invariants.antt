use Rattle.std.proofs.Common.{◌≡◌, ◌++◌, ◌+◌, length}
use Rattle.lineage.specs.Needing.{union_of_needs}
use Rattle.lineage.proofs.needs.union_of_needs.Given as goal

abbrev pub invariant-needs : goal.invariant-needs
invariant-needs l = l.made ++ union_of_needs l.left l.right ≡ union_of_needs l.needs l.others

abbrev pub decreases-needs : goal.decreases-needs
decreases-needs l = length l.left + length l.right
