use Rattle.std.proofs.Common.{◌≡◌, ◌&&◌, ◌%◌, List, ℕ, drop}
use Rattle.std.specs.Option.{option_or}
use Rattle.ldv_value.specs.Options.{only_if}
use Rattle.lanes.specs.Sets.{member}
use Rattle.run_model.specs.Slice.{reason_in}
use Rattle.run_model.specs.Packing.{reason_at}
use Rattle.slicer.specs.inner.Rows.{has_row}
use Rattle.slicer.proofs.reasons.note_all_fresh.Given as goal

abbrev pub invariant-loop-need : goal.invariant-loop-need
invariant-loop-need l = (table : List ℕ) (row : ℕ)
    → option_or (reason_at l.reasons table row) (only_if (member l.fresh (row % 4096) && has_row l.initial_rows table row) (reason_in l.statement table row (drop l.need-index l.needs)))
    ≡ option_or (reason_at l.fn.reasons table row) (only_if (member l.fresh (row % 4096) && has_row l.initial_rows table row) (reason_in l.statement table row l.needs))
