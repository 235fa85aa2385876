use Rattle.std.proofs.Common.{◌≡◌, ℕ, ◌&&◌}
use Rattle.std.specs.Prelude.{nat_lt}
use Rattle.lanes.specs.Sets.{member}
use Rattle.lanes.specs.Selection.{holds_at}
use Rattle.lanes.proofs.plain.plain_select_i64.Given as goal

abbrev pub invariant-loop-place : goal.invariant-loop-place
invariant-loop-place l = (n : ℕ) → member l.mask n ≡ (nat_lt n l.place && holds_at l.op l.column l.constant n)
