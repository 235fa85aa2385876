-- The step of an instruction that changes its own process only, over slots: each of them, told apart.
use Rattle.script_code.specs.declared.code.OwnInstr.{OwnInstr}
use Rattle.script_code.specs.declared.code.OwnInstr.TheVariants as own
use Rattle.proc_core.specs.declared.process.SlotProcess.{SlotProcess}
use Rattle.proc_core.specs.inner.Slots.{slot_went_to}
use Rattle.proc_core.specs.inner.SlotReplies.{slot_close, slot_fetch, slot_count, slot_status}
use Rattle.proc_core.specs.inner.SlotVariables.{slot_let, slot_calculate, slot_glue, slot_let_number}
use Rattle.proc_core.specs.inner.SlotVariables.{slot_cut}
use Rattle.proc_core.specs.inner.SlotVariables.{slot_jump_if, slot_print, slot_exit}

abbrev pub slot_own : OwnInstr → SlotProcess → SlotProcess
slot_own (own.Let to value) r = slot_let to value r
slot_own (own.Calc to op left right) r = slot_calculate to op left right r
slot_own (own.Glue to left right) r = slot_glue to left right r
slot_own (own.ToInt to value) r = slot_let_number to value r
slot_own (own.Cut before after by) r = slot_cut before after by r
slot_own (own.Jump place) r = slot_went_to place r
slot_own (own.JumpIf op left right place) r = slot_jump_if op left right place r
slot_own (own.Print operands) r = slot_print operands r
slot_own (own.Exit status) r = slot_exit status r
slot_own (own.Close slot) r = slot_close slot r
slot_own (own.Fetch slot to place) r = slot_fetch slot to place r
slot_own (own.Count to slot) r = slot_count to slot r
slot_own (own.Status to slot) r = slot_status to slot r
