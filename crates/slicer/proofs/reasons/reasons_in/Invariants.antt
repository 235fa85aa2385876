use Rattle.std.proofs.Common.{◌≡◌, List, ℕ, drop}
use Rattle.ldv_value.specs.Options.{only_if}
use Rattle.run_model.specs.Slice.{first_reason}
use Rattle.slicer.specs.inner.Rows.{reason_due, has_row}
use Rattle.slicer.proofs.reasons.reasons_in.Given as goal

abbrev pub invariant-loop-event : goal.invariant-loop-event
invariant-loop-event l = (table : List ℕ) (row : ℕ) → reason_due l.reasons l.initial_rows l.needed table row (first_reason table row (drop l.event-index l.events)) ≡ only_if (has_row l.initial_rows table row) (first_reason table row l.events)
