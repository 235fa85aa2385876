use Rattle.std.proofs.Common.{◌≡◌, ◌≤◌, ◌++◌, map}
use Rattle.package_codec.specs.Runs.{at_step, steps_from, run_events}
use Rattle.package_codec.proofs.RunFields.{SmallFrom}
use Rattle.package_codec.proofs.trace.expanding.expand_front.Given as goal

-- what is left are the last events of the run
abbrev pub invariant-loop-left : goal.invariant-loop-left
invariant-loop-left l = record {
  some : 1 ≤ l.left;
  within : l.left ≤ l.fn.run.count;
  small : SmallFrom l.at l.fn.run.stride l.left;
  due : l.to ++ map (at_step l.fn.run.first) (steps_from l.at l.fn.run.stride l.left) ≡ l.fn.to ++ run_events l.fn.run;
}

abbrev pub decreases-loop-left : goal.decreases-loop-left
decreases-loop-left l = l.left
