use Rattle.std.proofs.Common.{◌≡◌, ◌+◌, take, sum_by, count_ones}
use Rattle.lanes.proofs.members.count_rest.Given as goal

abbrev pub invariant-loop-place : goal.invariant-loop-place
invariant-loop-place l = sum_by count_ones (take l.from l.a) + l.total ≡ sum_by count_ones (take l.place l.a)
