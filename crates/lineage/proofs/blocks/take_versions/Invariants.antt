use Rattle.std.proofs.Common.{◌≡◌, ℕ}
use Rattle.lineage.specs.inner.Blocks.{version_of, HasPlace}
use Rattle.lineage.proofs.BlockLaws.{taken}
use Rattle.lineage.proofs.blocks.take_versions.Given as goal

abbrev pub invariant-loop-place : goal.invariant-loop-place
invariant-loop-place l =
    ((m : ℕ) → version_of l.versions m ≡ taken l.words l.fn.versions l.others l.place m)
    × ((m : ℕ) → HasPlace l.fn.versions m → HasPlace l.versions m)
