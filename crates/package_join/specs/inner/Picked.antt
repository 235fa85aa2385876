-- The package of a run, by sets of names and a map of reasons.
use Rattle.std.specs.Prelude.{ℕ, List, [], ◌∷◌, Bool, if◌then◌else◌, Option, Some, None}
use Rattle.run_model.specs.Slice.{Reason as SliceReason}
use Rattle.package_join.specs.Types.{PackedFile}
use Rattle.joined_data.specs.declared.joined.Reason.{Reason}
use Rattle.joined_data.specs.Joined.{as_present, is_reason}

-- ---- files, by two tests of their paths

abbrev pub file_by : (List ℕ → Bool) → (List ℕ → Bool) → PackedFile → Option PackedFile
file_by whole present file =
    if whole file.path then Some file else if present file.path then Some (as_present file) else None

-- ---- the first reason for a row

abbrev pub slice_reason : Reason → SliceReason
slice_reason reason = record { statement = reason.statement; rule = reason.rule }

-- the reason, where it is one for this row
abbrev pub reason_if : Reason → List ℕ → ℕ → Option SliceReason
reason_if reason table row = if is_reason table row reason then Some (slice_reason reason) else None

abbrev pub reason_for : List Reason → List ℕ → ℕ → Option SliceReason
reason_for [] table row = None
reason_for (reason ∷ reasons) table row =
    if is_reason table row reason then Some (slice_reason reason) else reason_for reasons table row
