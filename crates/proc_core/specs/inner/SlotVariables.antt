-- The steps of `let`, `cut`, `goto`, `if`, `print` and `exit` over slots. `StepVariables` of `run_model`
-- defines them by names.
use Rattle.std.specs.Prelude.{ℕ, ◌+◌, List, [], ◌∷◌, ◌++◌, length, nat_lt, if◌then◌else◌, Bool, true, false}
use Rattle.std.specs.Prelude.{Option, Some, None}
use Rattle.ldv_value.specs.Limits.{printed_limit}
use Rattle.ldv_value.specs.Order.{order, meets}
use Rattle.ldv_value.specs.declared.value.Cmp.{Cmp}
use Rattle.proc_core.specs.Types.{Value, Null, Int, Text, CalcOp}
use Rattle.run_model.specs.StepBase.{wrong_kind, too_long_status, Yields}
use Rattle.run_model.specs.StepVariables.{calculation, concatenation, to_number, first_place, before_place}
use Rattle.run_model.specs.StepVariables.{after_place}
use Rattle.run_model.specs.StepVariables.{printed_line, exit_status}
use Rattle.script_code.specs.declared.code.SlotOperand.{SlotOperand}
use Rattle.script_code.specs.declared.code.SlotOperand.TheVariants.{Slot}
use Rattle.proc_core.specs.declared.instructions.cut.CutParts.{CutParts}
use Rattle.proc_core.specs.declared.process.SlotProcess.{SlotProcess}
use Rattle.proc_core.specs.inner.Slots.{slot_value, slot_values, slot_ended, slot_went_on, slot_went_to}
use Rattle.proc_core.specs.inner.Slots.{slot_with_variable, slot_assign}

abbrev pub slot_let : ℕ → SlotOperand → SlotProcess → SlotProcess
slot_let to value r = slot_assign to (Yields (slot_value r value)) r

abbrev pub slot_calculate : ℕ → CalcOp → SlotOperand → SlotOperand → SlotProcess → SlotProcess
slot_calculate to op left right r = slot_assign to (calculation op (slot_value r left) (slot_value r right)) r

abbrev pub slot_glue : ℕ → SlotOperand → SlotOperand → SlotProcess → SlotProcess
slot_glue to left right r = slot_assign to (concatenation (slot_value r left) (slot_value r right)) r

abbrev pub slot_let_number : ℕ → SlotOperand → SlotProcess → SlotProcess
slot_let_number to value r = slot_assign to (to_number (slot_value r value)) r

-- the parts of a text around another, which isn't empty
abbrev pub split_at_place : Option ℕ → List ℕ → List ℕ → CutParts
split_at_place place by text = record { before = before_place place text; after = after_place place by text }

-- none where it's misuse
abbrev pub split_value : Value → Value → Option CutParts
split_value Null text = None
split_value (Int n) text = None
split_value (Text []) text = None
split_value (Text (b ∷ bs)) Null = None
split_value (Text (b ∷ bs)) (Int n) = None
split_value (Text (b ∷ bs)) (Text text) = Some (split_at_place (first_place 0 (b ∷ bs) text) (b ∷ bs) text)

abbrev pub slot_cut_parts : ℕ → ℕ → Option CutParts → SlotProcess → SlotProcess
slot_cut_parts before after None r = slot_ended wrong_kind r
slot_cut_parts before after (Some parts) r =
    slot_went_on
    (slot_with_variable after (Text parts.after) (slot_with_variable before (Text parts.before) r))

abbrev pub slot_cut : ℕ → ℕ → SlotOperand → SlotProcess → SlotProcess
slot_cut before after by r =
    slot_cut_parts before after (split_value (slot_value r by) (slot_value r (Slot after))) r

abbrev pub slot_jump_where : Bool → ℕ → SlotProcess → SlotProcess
slot_jump_where true place r = slot_went_to place r
slot_jump_where false place r = slot_went_on r

abbrev pub slot_jump_if : Cmp → SlotOperand → SlotOperand → ℕ → SlotProcess → SlotProcess
slot_jump_if op left right place r =
    slot_jump_where (meets op (order (slot_value r left) (slot_value r right))) place r

abbrev pub slot_print_line : List ℕ → SlotProcess → SlotProcess
slot_print_line text r =
    if nat_lt printed_limit (length r.printed + length text) then slot_ended too_long_status r
    else slot_went_on (record r { printed = r.printed ++ text })

abbrev pub slot_print : List SlotOperand → SlotProcess → SlotProcess
slot_print operands r = slot_print_line (printed_line (slot_values r operands)) r

abbrev pub slot_exit : SlotOperand → SlotProcess → SlotProcess
slot_exit status r = slot_ended (exit_status (slot_value r status)) r
