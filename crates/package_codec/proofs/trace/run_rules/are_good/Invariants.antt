use Rattle.std.proofs.Common.{◌≡◌, ◌&&◌, length}
use Rattle.std.specs.List.{list_all}
use Rattle.package_codec.specs.Runs.{is_run, are_longest}
use Rattle.package_codec.proofs.trace.run_rules.are_good.Given as goal

-- those that are left say whether all are
abbrev pub invariant-loop-left : goal.invariant-loop-left
invariant-loop-left l = record {
  same : (list_all is_run l.left && are_longest l.left) ≡ (list_all is_run l.fn.runs && are_longest l.fn.runs);
}

abbrev pub decreases-loop-left : goal.decreases-loop-left
decreases-loop-left l = length l.left
