use Rattle.std.proofs.Common.{◌≡◌, ◌+◌, ◌≤◌, length}
use Rattle.package_codec.specs.Runs.{runs_from, run_of_one}
use Rattle.package_codec.proofs.trace.writing.count_from.Given as goal

-- the runs that are over and those that are to come, the one that has begun among these
abbrev pub invariant-loop-left : goal.invariant-loop-left
invariant-loop-left l = record {
  due : l.runs + length (runs_from (record { run = record { first = l.begun; count = l.count; stride = l.stride }; last = l.last }) l.left)
      ≡ length (runs_from (run_of_one l.fn.first) l.fn.rest) + 1;
  fits : l.count + length l.left ≤ length l.fn.rest + 1;
  few : l.runs + length l.left ≤ length l.fn.rest + 1;
}

abbrev pub decreases-loop-left : goal.decreases-loop-left
decreases-loop-left l = length l.left
