use Rattle.std.proofs.Common.{◌≡◌, ◌≤◌, ◌-◌, length, take, sum_by, count_ones}
use Rattle.lanes.proofs.members.count.Given as goal

abbrev pub invariant-eights : goal.invariant-eights
invariant-eights l = record {
  within : l.at ≤ length l.a;
  total : l.total ≡ sum_by count_ones (take l.at l.a);
}

abbrev pub decreases-eights : goal.decreases-eights
decreases-eights l = length l.a - l.at
