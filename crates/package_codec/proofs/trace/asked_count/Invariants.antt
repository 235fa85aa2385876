use Rattle.std.proofs.Common.{◌≡◌, ◌≤◌, ◌+◌, length, true}
use Rattle.std.specs.List.{list_all}
use Rattle.package_codec.specs.Runs.{events_in, is_run}
use Rattle.package_codec.specs.inner.Trace.{asked_among}
use Rattle.package_codec.proofs.trace.asked_count.Given as goal

abbrev pub invariant-loop-left : goal.invariant-loop-left
invariant-loop-left l = record {
  same : asked_among l.asked (events_in l.left) ≡ asked_among 0 (events_in l.fn.runs);
  good : list_all is_run l.left ≡ true;
  within : l.asked + length l.left ≤ length l.fn.runs;
}

abbrev pub decreases-loop-left : goal.decreases-loop-left
decreases-loop-left l = length l.left
