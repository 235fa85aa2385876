use Rattle.std.proofs.Common.{◌≡◌, ℕ, ◌≤◌, ◌<◌, ◌-◌, length, get_or}
use Rattle.lanes.proofs.members.skip_blocks.Given as goal

abbrev pub invariant-eights : goal.invariant-eights
invariant-eights l = record {
  onward : l.from ≤ l.at;
  within : l.at ≤ length l.a;
  empty : (k : ℕ) → l.from ≤ k → k < l.at → get_or l.a k 0 ≡ 0;
}

abbrev pub decreases-eights : goal.decreases-eights
decreases-eights l = length l.a - l.at
