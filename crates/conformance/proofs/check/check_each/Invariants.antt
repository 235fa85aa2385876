use Rattle.std.proofs.Common.{◌≡◌, ◌≤◌, drop, option_map}
use Rattle.conformance.specs.Files.{AreFilesAsWanted}
use Rattle.conformance.proofs.check.check_each.Given as goal

-- what is left decides
abbrev pub invariant-loop-file : goal.invariant-loop-file
invariant-loop-file g l =
    (l.initial.tally.differences ≤ l.tally.differences)
    × (l.tally.differences ≡ 0
    → AreFilesAsWanted (option_map (λ name. name.now) l.only) (drop l.file-index l.files)
    → AreFilesAsWanted (option_map (λ name. name.now) l.only) l.files)
