use Rattle.std.proofs.Common.{◌≡◌, ◌≤◌, ◌+◌, length, true}
use Rattle.std.specs.List.{list_all}
use Rattle.package_codec.specs.Runs.{events_in, is_run}
use Rattle.package_codec.specs.inner.Trace.{follows, at_start, progress_of}
use Rattle.package_codec.proofs.trace.follows.Given as goal

-- those that are left say whether all are
abbrev pub invariant-loop-left : goal.invariant-loop-left
invariant-loop-left l = record {
  same : follows l.steps (progress_of l.progress) (events_in l.left) ≡ follows l.steps at_start (events_in l.fn.runs);
  good : list_all is_run l.left ≡ true;
  made : l.progress.made ≤ 65535;
  asked : l.progress.asked + length l.left ≤ length l.fn.runs;
}

abbrev pub decreases-loop-left : goal.decreases-loop-left
decreases-loop-left l = length l.left
