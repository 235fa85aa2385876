use Rattle.std.proofs.Common.{◌≡◌, List, ℕ, length}
use Rattle.std.specs.Prelude.{Option}
use Rattle.std.specs.Option.{option_or}
use Rattle.run_model.specs.Slice.{Reason, reason_in}
use Rattle.slicer.specs.inner.Rows.{reason_due}
use Rattle.slicer.proofs.reasons.note_reads.Given as goal

abbrev pub invariant-loop-left : goal.invariant-loop-left
invariant-loop-left l = (table : List ℕ) (row : ℕ) (later : Option Reason)
    → reason_due l.reasons l.initial_rows l.needed table row (option_or (reason_in l.statement table row l.left) later)
    ≡ reason_due l.fn.reasons l.initial_rows l.fn.needed table row (option_or (reason_in l.statement table row l.needs) later)

abbrev pub decreases-loop-left : goal.decreases-loop-left
decreases-loop-left l = length l.left
