use Rattle.std.proofs.Common.{bit_or}
use Rattle.lanes.specs.inner.Merged.{IsMergedTo}
use Rattle.lanes.proofs.plain.plain_or_into.Given as goal

abbrev pub invariant-loop-place : goal.invariant-loop-place
invariant-loop-place l = IsMergedTo bit_or l.fn.a l.b l.a l.place
