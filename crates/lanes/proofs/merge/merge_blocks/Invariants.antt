use Rattle.std.proofs.Common.{◌≤◌, length, ◌-◌}
use Rattle.lanes.specs.inner.Merged.{IsMergedTo}
use Rattle.lanes.proofs.merge.merge_blocks.Given as goal

abbrev pub invariant-eights : goal.invariant-eights
invariant-eights g l = record {
  within : l.at ≤ length l.a;
  merged : IsMergedTo g.M.Merge.merge l.fn.a l.b l.a l.at;
}

abbrev pub decreases-eights : goal.decreases-eights
decreases-eights g l = length l.a - l.at
