use Rattle.std.proofs.Common.{◌≡◌, drop}
use Rattle.sql_model.specs.Refusals.{union_kinds}
use Rattle.sql_check.proofs.Unions.{union_onto}
use Rattle.sql_check.proofs.union.union_kinds.Given as goal

abbrev pub invariant-loop-place : goal.invariant-loop-place
invariant-loop-place l = union_onto l.kinds.items (drop l.place l.left) (drop l.place l.right) ≡ union_kinds l.left l.right
