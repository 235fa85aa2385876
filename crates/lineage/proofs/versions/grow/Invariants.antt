use Rattle.std.proofs.Common.{◌≡◌, ◌-◌, ◌≤◌, ℕ, length}
use Rattle.lineage.specs.inner.Blocks.{version_of}
use Rattle.lineage.proofs.versions.grow.Given as goal

abbrev pub invariant-loop-versions : goal.invariant-loop-versions
invariant-loop-versions l =
    (l.versions.first ≡ l.fn.versions.first) × (length l.fn.versions.numbers ≤ length l.versions.numbers)
    × ((m : ℕ) → version_of l.versions m ≡ version_of l.fn.versions m)

abbrev pub decreases-loop-versions : goal.decreases-loop-versions
decreases-loop-versions l = l.count - length l.versions.numbers
