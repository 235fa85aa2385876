use Rattle.std.proofs.Common.{◌≡◌, ◌<◌, ◌≤◌, ◌^◌, ◌+◌, drop, option_map}
use Rattle.conformance.specs.Files.{AreAsWanted}
use Rattle.conformance.specs.Wanted.{wanted_count}
use Rattle.conformance.proofs.check.check_cases.Given as goal

abbrev pub invariant-loop-case : goal.invariant-loop-case
invariant-loop-case g l =
    (l.initial.tally.differences ≤ l.tally.differences)
    × (l.initial.tally.cases + wanted_count (option_map (λ name. name.now) l.only) l.cases < 2 ^ 64
    → l.tally.cases + wanted_count (option_map (λ name. name.now) l.only) (drop l.case-index l.cases)
    ≡ l.initial.tally.cases + wanted_count (option_map (λ name. name.now) l.only) l.cases)
    × (l.tally.differences ≡ 0
    → AreAsWanted (option_map (λ name. name.now) l.only) (drop l.case-index l.cases)
    → AreAsWanted (option_map (λ name. name.now) l.only) l.cases)
