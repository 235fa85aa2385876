use Rattle.std.proofs.Common.{◌≡◌, ◌++◌, ◌∷◌, length, ◌+◌, ◌≤◌}
use Rattle.std.specs.List.{flat_map}
use Rattle.package_codec.specs.Runs.{event_run_spelling, runs_from, run_of_one}
use Rattle.package_codec.proofs.RunFields.{IsCutSoFar}
use Rattle.package_codec.proofs.trace.writing.encode_from.Given as goal

-- what is written, and what is still due of the run that has begun and the events that are left
abbrev pub invariant-loop-left : goal.invariant-loop-left
invariant-loop-left l = record {
  bytes : l.to ++ flat_map event_run_spelling (runs_from (record { run = record { first = l.begun; count = l.count; stride = l.stride }; last = l.last }) l.left)
      ≡ l.fn.to ++ flat_map event_run_spelling (runs_from (run_of_one l.fn.first) l.fn.rest);
  fits : l.count + length l.left ≤ length l.fn.rest + 1;
  stands : IsCutSoFar (l.fn.first ∷ l.fn.rest) (record { run = record { first = l.begun; count = l.count; stride = l.stride }; last = l.last }) l.left;
}

abbrev pub decreases-loop-left : goal.decreases-loop-left
decreases-loop-left l = length l.left
