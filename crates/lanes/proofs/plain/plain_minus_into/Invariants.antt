use Rattle.lanes.specs.inner.Merged.{without}
use Rattle.lanes.specs.inner.Merged.{IsMergedTo}
use Rattle.lanes.proofs.plain.plain_minus_into.Given as goal

abbrev pub invariant-loop-place : goal.invariant-loop-place
invariant-loop-place l = IsMergedTo without l.fn.a l.b l.a l.place
