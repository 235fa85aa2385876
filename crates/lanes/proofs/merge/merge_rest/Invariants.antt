use Rattle.std.proofs.Common.{List, ℕ}
use Rattle.lanes.specs.inner.Merged.{IsMergedTo}
use Rattle.lanes.proofs.merge.merge_rest.Given as goal

abbrev pub invariant-loop-place : goal.invariant-loop-place
invariant-loop-place g l = (start : List ℕ) → IsMergedTo g.M.Merge.merge start l.b l.fn.a l.fn.from → IsMergedTo g.M.Merge.merge start l.b l.a l.place
