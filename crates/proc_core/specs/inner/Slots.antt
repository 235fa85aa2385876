-- Processes with slots in place of names: what operands and names mean, and the changes that instructions
-- are made of.
use Rattle.std.specs.Prelude.{ℕ, ◌+◌, List, map, slice_get, slice_set, Option, Some}
use Rattle.sql_model.specs.Meaning.{or_null}
use Rattle.proc_core.specs.Types.{Value}
use Rattle.run_model.specs.Core.{OpenFile}
use Rattle.run_model.specs.StepBase.{Computation, Yields, Misused}
use Rattle.script_code.specs.declared.code.SlotOperand.{SlotOperand}
use Rattle.script_code.specs.declared.code.SlotOperand.TheVariants.{Constant, Slot}
pub use Rattle.proc_core.specs.inner.Paged.{flatten_option}
use Rattle.proc_core.specs.declared.instructions.computed.Computed.{Computed as Result}
use Rattle.proc_core.specs.declared.instructions.computed.Computed.TheVariants as results
use Rattle.proc_core.specs.declared.process.SlotCursor.{SlotCursor}
use Rattle.proc_core.specs.declared.process.SlotProcess.{SlotProcess}

-- ---- operands

abbrev pub slot_value : SlotProcess → SlotOperand → Value
slot_value r (Constant v) = v
slot_value r (Slot slot) = or_null (slice_get r.variables slot)

abbrev pub slot_values : SlotProcess → List SlotOperand → List Value
slot_values r operands = map (slot_value r) operands

-- ---- values that are computed

abbrev pub computation_of : Result → Computation
computation_of (results.Yields v) = Yields v
computation_of (results.Misused status) = Misused status

-- ---- what names mean

abbrev pub open_at : ℕ → SlotProcess → Option OpenFile
open_at slot r = flatten_option (slice_get r.files slot)

abbrev pub cursor_of : ℕ → SlotProcess → Option SlotCursor
cursor_of slot r = flatten_option (slice_get r.cursors slot)

abbrev pub child_at : ℕ → SlotProcess → Option ℕ
child_at slot r = flatten_option (slice_get r.children slot)

-- ---- what becomes of a process

abbrev pub slot_ended : ℕ → SlotProcess → SlotProcess
slot_ended status r = record r { status = Some status }

abbrev pub slot_went_on : SlotProcess → SlotProcess
slot_went_on r = record r { place = r.place + 1 }

abbrev pub slot_went_to : ℕ → SlotProcess → SlotProcess
slot_went_to place r = record r { place = place }

abbrev pub slot_with_variable : ℕ → Value → SlotProcess → SlotProcess
slot_with_variable slot v r = record r { variables = slice_set r.variables slot v }

abbrev pub slot_assign : ℕ → Computation → SlotProcess → SlotProcess
slot_assign slot (Yields v) r = slot_went_on (slot_with_variable slot v r)
slot_assign slot (Misused status) r = slot_ended status r

abbrev pub slot_with_file : ℕ → Option OpenFile → SlotProcess → SlotProcess
slot_with_file slot file r = record r { files = slice_set r.files slot file }

abbrev pub slot_with_cursor : ℕ → SlotCursor → SlotProcess → SlotProcess
slot_with_cursor slot cursor r = record r { cursors = slice_set r.cursors slot (Some cursor) }

abbrev pub slot_with_child : ℕ → ℕ → SlotProcess → SlotProcess
slot_with_child slot number r = record r { children = slice_set r.children slot (Some number) }
