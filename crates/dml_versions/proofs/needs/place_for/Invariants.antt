use Rattle.std.proofs.Common.{◌≡◌, ◌+◌, drop}
use Rattle.std.specs.Prelude.{nat_le}
use Rattle.std.specs.List.{position_or_len}
use Rattle.dml_versions.proofs.needs.place_for.Given as goal

abbrev pub invariant-loop-place : goal.invariant-loop-place
invariant-loop-place l =
    position_or_len (λ need. nat_le l.row need.member.row) l.needs
    ≡ l.place + position_or_len (λ need. nat_le l.row need.member.row) (drop l.place l.needs)
