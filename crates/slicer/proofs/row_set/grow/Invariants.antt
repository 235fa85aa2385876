use Rattle.std.proofs.Common.{◌≡◌, ◌-◌, ◌≤◌, ℕ, length}
use Rattle.lanes.specs.Sets.{member}
use Rattle.slicer.proofs.row_set.grow.Given as goal

abbrev pub invariant-loop-words : goal.invariant-loop-words
invariant-loop-words l =
    ((n : ℕ) → member l.words n ≡ member l.fn.words n)
    × (length l.fn.words ≤ l.count → length l.words ≤ l.count)

abbrev pub decreases-loop-words : goal.decreases-loop-words
decreases-loop-words l = l.count - length l.words
