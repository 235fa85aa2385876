use Rattle.std.proofs.Common.{◌≡◌, ℕ, ◌≤◌, ◌<◌, false}
use Rattle.lanes.specs.Sets.{member}
use Rattle.lanes.proofs.plain.plain_next_one.Given as goal

abbrev pub invariant-loop-number : goal.invariant-loop-number
invariant-loop-number l = (n : ℕ) → l.from ≤ n → n < l.number → member l.a n ≡ false
