use Rattle.std.proofs.Common.{◌≡◌, ◌≤◌, ◌+◌, length}
use Rattle.package_codec.specs.Runs.{total, max_events}
use Rattle.package_codec.proofs.trace.run_rules.count_events.Given as goal

-- room is what is left of max_events behind the runs so far
abbrev pub invariant-loop-left : goal.invariant-loop-left
invariant-loop-left l = record {
  same : total l.fn.runs + l.room ≡ max_events + total l.left;
  within : l.room ≤ 20000001;
}

abbrev pub decreases-loop-left : goal.decreases-loop-left
decreases-loop-left l = length l.left
