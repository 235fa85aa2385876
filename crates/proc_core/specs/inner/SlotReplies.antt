-- The steps of `fetch`, `count`, `status` and `close` over slots. `StepReplies` of `run_model` defines them
-- by names; `StepFiles` there defines `close`.
use Rattle.std.specs.Prelude.{ℕ, ◌+◌, List, [], ◌∷◌, length, ◌==◌, if◌then◌else◌, Option, Some, None}
use Rattle.std.specs.Prelude.{option_and_then}
use Rattle.proc_core.specs.Types.{Value}
use Rattle.run_model.specs.Core.{OpenFile}
use Rattle.run_model.specs.StepBase.{wrong_kind}
use Rattle.run_model.specs.StepReplies.{next_row, row_count, status_value}
use Rattle.proc_core.specs.declared.process.SlotCursor.{SlotCursor}
use Rattle.proc_core.specs.declared.process.SlotProcess.{SlotProcess}
use Rattle.proc_core.specs.inner.Slots.{open_at, cursor_of, slot_ended, slot_went_on, slot_went_to}
use Rattle.proc_core.specs.Stands.{cursor_at}
use Rattle.proc_core.specs.inner.Slots.{slot_with_variable, slot_with_file, slot_with_cursor, slot_assign}

-- ---- `close`

abbrev pub slot_close_file : Option OpenFile → ℕ → SlotProcess → SlotProcess
slot_close_file None slot r = slot_ended wrong_kind r
slot_close_file (Some file) slot r = slot_went_on (slot_with_file slot None r)

abbrev pub slot_close : ℕ → SlotProcess → SlotProcess
slot_close slot r = slot_close_file (open_at slot r) slot r

-- ---- `fetch`

abbrev pub slot_with_values : List ℕ → List Value → SlotProcess → SlotProcess
slot_with_values [] values r = r
slot_with_values (slot ∷ slots) [] r = r
slot_with_values (slot ∷ slots) (v ∷ values) r = slot_with_values slots values (slot_with_variable slot v r)

abbrev pub slot_one_more : ℕ → SlotCursor → SlotProcess → SlotProcess
slot_one_more slot cursor r = slot_with_cursor slot (record cursor { fetched = cursor.fetched + 1 }) r

abbrev pub slot_take_row : List Value → SlotCursor → ℕ → List ℕ → SlotProcess → SlotProcess
slot_take_row row cursor slot to r =
    if length row == length to then slot_went_on (slot_with_values to row (slot_one_more slot cursor r))
    else slot_ended wrong_kind r

abbrev pub slot_fetch_row : Option (List Value) → SlotCursor → ℕ → List ℕ → ℕ → SlotProcess → SlotProcess
slot_fetch_row None cursor slot to place r = slot_went_to place r
slot_fetch_row (Some row) cursor slot to place r = slot_take_row row cursor slot to r

abbrev pub slot_next_row : SlotCursor → SlotProcess → Option (List Value)
slot_next_row cursor r = option_and_then next_row (cursor_at r.replies cursor)

abbrev pub slot_fetch_from : Option SlotCursor → ℕ → List ℕ → ℕ → SlotProcess → SlotProcess
slot_fetch_from None slot to place r = slot_ended wrong_kind r
slot_fetch_from (Some cursor) slot to place r = slot_fetch_row (slot_next_row cursor r) cursor slot to place r

abbrev pub slot_fetch : ℕ → List ℕ → ℕ → SlotProcess → SlotProcess
slot_fetch slot to place r = slot_fetch_from (cursor_of slot r) slot to place r

-- ---- `count` and `status`

abbrev pub slot_count : ℕ → ℕ → SlotProcess → SlotProcess
slot_count to slot r = slot_assign to (row_count (option_and_then (cursor_at r.replies) (cursor_of slot r))) r

abbrev pub slot_status : ℕ → ℕ → SlotProcess → SlotProcess
slot_status to slot r =
    slot_assign to (status_value (option_and_then (cursor_at r.replies) (cursor_of slot r))) r
