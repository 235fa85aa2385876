use Rattle.std.proofs.Common.{◌≡◌, List, ℕ, drop}
use Rattle.std.specs.Option.{option_or}
use Rattle.run_model.specs.Packing.{reason_at}
use Rattle.package_join.specs.inner.Picked.{reason_for}
use Rattle.package_join.proofs.choosing.first_reasons.Given as goal

abbrev pub invariant-loop-reason : goal.invariant-loop-reason
invariant-loop-reason l = (table : List ℕ) (row : ℕ)
    → option_or (reason_at l.first table row) (reason_for (drop l.reason-index l.reason-items) table row) ≡ reason_for l.reasons table row
