-- An instruction that changes its own process only, over slots and as it is defined.
use Rattle.std.proofs.Common.{◌≡◌, ℕ, ◌+◌, List, [], ◌∷◌, ◌++◌, length, map, refl, sym, ap, ◌∙◌, subst, Bool, true, false, inl, inr}
use Rattle.std.specs.Prelude.{Option, None, nat_lt}
use Rattle.ldv_value.proofs.Cases.{cases-bool}
use Rattle.ldv_value.specs.Limits.{printed_limit}
use Rattle.ldv_value.specs.Order.{order, meets}
use Rattle.ldv_value.specs.declared.value.Cmp.{Cmp}
use Rattle.script_parse.specs.declared.script.Instr.TheVariants as instr
use Rattle.proc_core.specs.Types.{Value, Null, Int, Text, Instr, Operand, Variable, CalcOp}
use Rattle.run_model.specs.Core.{Process, Core}
use Rattle.run_model.specs.Step.{execute, asked_by}
use Rattle.run_model.specs.StepBase.{operand_value, operand_values, went_to, with_variable, wrong_kind, too_long_status, Computation, Yields, assign, own}
use Rattle.run_model.specs.StepVariables.{let_value, calculation, calculate, concatenation, glue, to_number, let_number, first_place, before_place, after_place, cut_values, cut, jump_where, jump_if, printed_line, print_line, print, exit_status, exit}
use Rattle.script_code.specs.declared.code.Scope.{Scope}
use Rattle.script_code.specs.declared.code.OwnInstr.{OwnInstr}
use Rattle.script_code.specs.declared.code.OwnInstr.TheVariants as owned
use Rattle.script_code.specs.Resolved.{slot_of, HasName, slot_operand, HasOperand, HasOperands, IsScope}
use Rattle.proc_core.specs.declared.process.SlotProcess.{SlotProcess}
use Rattle.proc_core.specs.inner.Slots.{slot_value, slot_assign, slot_ended, slot_with_variable}
use Rattle.proc_core.specs.Stands.{Holds}
use Rattle.proc_core.specs.inner.SlotOwn.{slot_own}
use Rattle.proc_core.specs.inner.SlotVariables.{split_value, slot_cut_parts, slot_jump_where, slot_print_line}
use Rattle.proc_core.proofs.Holding.{value_same, values_same, holds_ended, holds_went_to, holds_went_on, holds_variable, holds_printed, holds_assign}

module _ (s : Scope) (index : ℕ) (script : List Instr) where
  -- a computed value, which both have
  assign_same : (name : List ℕ) (c d : Computation) (r : SlotProcess) (p : Process) → c ≡ d → IsScope s → HasName s.variables name
      → Holds s index script r p → Holds s index script (slot_assign (slot_of s.variables name) c r) (assign name d p)
  assign_same name c d r p same scope has h =
      subst (λ (x : Computation). Holds s index script (slot_assign (slot_of s.variables name) x r) (assign name d p)) (sym same)
      (holds_assign s index script name d r p scope has h)

  cut_parts_same : (before after : List ℕ) (v w : Value) (r : SlotProcess) (p : Process) → IsScope s → HasName s.variables before
      → HasName s.variables after → Holds s index script r p
      → Holds s index script (slot_cut_parts (slot_of s.variables before) (slot_of s.variables after) (split_value v w) r)
      (cut_values before after v w p)
  cut_parts_same before after Null w r p scope has more h = holds_ended s index script wrong_kind r p h
  cut_parts_same before after (Int n) w r p scope has more h = holds_ended s index script wrong_kind r p h
  cut_parts_same before after (Text []) w r p scope has more h = holds_ended s index script wrong_kind r p h
  cut_parts_same before after (Text (b ∷ bs)) Null r p scope has more h = holds_ended s index script wrong_kind r p h
  cut_parts_same before after (Text (b ∷ bs)) (Int n) r p scope has more h = holds_ended s index script wrong_kind r p h
  cut_parts_same before after (Text (b ∷ bs)) (Text text) r p scope has more h =
      let place : Option ℕ = first_place 0 (b ∷ bs) text in
      let front : Value = Text (before_place place text) in
      let rest : Value = Text (after_place place (b ∷ bs) text) in
      let r1 : SlotProcess = slot_with_variable (slot_of s.variables before) front r in
      let p1 : Process = with_variable before front p in
      holds_went_on s index script (slot_with_variable (slot_of s.variables after) rest r1) (with_variable after rest p1)
      (holds_variable s index script after rest r1 p1 scope more (holds_variable s index script before front r p scope has h))

  jump_where_same : (jumps : Bool) (place : ℕ) (r : SlotProcess) (p : Process) → Holds s index script r p
      → Holds s index script (slot_jump_where jumps place r) (jump_where jumps place p)
  jump_where_same true place r p h = holds_went_to s index script place r p h
  jump_where_same false place r p h = holds_went_on s index script r p h

  print_line_same : (text : List ℕ) (r : SlotProcess) (p : Process) → Holds s index script r p
      → Holds s index script (slot_print_line text r) (print_line text p)
  print_line_same text r p h = elim (cases-bool (nat_lt printed_limit (length p.printed + length text))) [
    | inl over ↦
        let too : nat_lt printed_limit (length r.printed + length text) ≡ true = ap (λ (l : List ℕ). nat_lt printed_limit (length l + length text)) h.printed ∙ over in
        rw (over, too) (holds_ended s index script too_long_status r p h)
    | inr within ↦
        let too : nat_lt printed_limit (length r.printed + length text) ≡ false = ap (λ (l : List ℕ). nat_lt printed_limit (length l + length text)) h.printed ∙ within in
        rw (within, too)
        (holds_went_on s index script (record r { printed = r.printed ++ text }) (record p { printed = p.printed ++ text })
        (holds_printed s index script text r p h))
  ]

  -- ---- each instruction

  -- the same becomes of the process, and nothing is asked
  abbrev pub OwnSame : OwnInstr → Instr → SlotProcess → Process → Type 0
  OwnSame o i r p =
      (q : Process) × ((number : ℕ) (c : Core) → execute i number p c ≡ own number q c) × (asked_by i p ≡ None)
      × Holds s index script (slot_own o r) q

  pub let_same : (to : List ℕ) (value : Operand) (r : SlotProcess) (p : Process) → IsScope s → HasName s.variables to
      → HasOperand s.variables value → Holds s index script r p
      → OwnSame (owned.Let (slot_of s.variables to) (slot_operand s.variables value)) (instr.Let to value) r p
  let_same to value r p scope has takes h = (
    let_value to value p,
    λ number c. refl,
    refl,
    assign_same to (Yields (slot_value r (slot_operand s.variables value))) (Yields (operand_value p value)) r p
        (ap Yields (value_same s index script value r p takes h)) scope has h,
  )

  pub calc_same : (to : List ℕ) (op : CalcOp) (left right : Operand) (r : SlotProcess) (p : Process) → IsScope s
      → HasName s.variables to → HasOperand s.variables left → HasOperand s.variables right → Holds s index script r p
      → OwnSame (owned.Calc (slot_of s.variables to) op (slot_operand s.variables left) (slot_operand s.variables right)) (instr.Calc to op left right) r p
  calc_same to op left right r p scope has first second h = (
    calculate to op left right p,
    λ number c. refl,
    refl,
    assign_same to _ (calculation op (operand_value p left) (operand_value p right)) r p
        (λ j. calculation op (value_same s index script left r p first h j) (value_same s index script right r p second h j)) scope has h,
  )

  pub glue_same : (to : List ℕ) (left right : Operand) (r : SlotProcess) (p : Process) → IsScope s
      → HasName s.variables to → HasOperand s.variables left → HasOperand s.variables right → Holds s index script r p
      → OwnSame (owned.Glue (slot_of s.variables to) (slot_operand s.variables left) (slot_operand s.variables right)) (instr.Glue to left right) r p
  glue_same to left right r p scope has first second h = (
    glue to left right p,
    λ number c. refl,
    refl,
    assign_same to _ (concatenation (operand_value p left) (operand_value p right)) r p
        (λ j. concatenation (value_same s index script left r p first h j) (value_same s index script right r p second h j)) scope has h,
  )

  pub number_same : (to : List ℕ) (value : Operand) (r : SlotProcess) (p : Process) → IsScope s → HasName s.variables to
      → HasOperand s.variables value → Holds s index script r p
      → OwnSame (owned.ToInt (slot_of s.variables to) (slot_operand s.variables value)) (instr.ToInt to value) r p
  number_same to value r p scope has takes h = (
    let_number to value p,
    λ number c. refl,
    refl,
    assign_same to _ (to_number (operand_value p value)) r p (ap to_number (value_same s index script value r p takes h)) scope has h,
  )

  pub cut_same : (before after : List ℕ) (by : Operand) (r : SlotProcess) (p : Process) → IsScope s → HasName s.variables before
      → HasName s.variables after → HasOperand s.variables by → Holds s index script r p
      → OwnSame (owned.Cut (slot_of s.variables before) (slot_of s.variables after) (slot_operand s.variables by)) (instr.Cut before after by) r p
  cut_same before after by r p scope has more takes h =
      let slots : ℕ = slot_of s.variables after in (
        cut before after by p,
        λ number c. refl,
        refl,
        subst (λ (v : Value × Value). Holds s index script (slot_cut_parts (slot_of s.variables before) slots (split_value v.0 v.1) r) (cut before after by p))
            (λ j. (sym (value_same s index script by r p takes h) j, sym (value_same s index script (Variable after) r p more h) j))
            (cut_parts_same before after (operand_value p by) (operand_value p (Variable after)) r p scope has more h),
      )

  pub jump_same : (place : ℕ) (r : SlotProcess) (p : Process) → Holds s index script r p
      → OwnSame (owned.Jump place) (instr.Jump place) r p
  jump_same place r p h = (went_to place p, λ number c. refl, refl, holds_went_to s index script place r p h)

  pub jump_if_same : (op : Cmp) (left right : Operand) (place : ℕ) (r : SlotProcess) (p : Process)
      → HasOperand s.variables left → HasOperand s.variables right → Holds s index script r p
      → OwnSame (owned.JumpIf op (slot_operand s.variables left) (slot_operand s.variables right) place) (instr.JumpIf op left right place) r p
  jump_if_same op left right place r p first second h = (
    jump_if op left right place p,
    λ number c. refl,
    refl,
    subst (λ (b : Bool). Holds s index script (slot_jump_where b place r) (jump_if op left right place p))
        (λ j. meets op (order (sym (value_same s index script left r p first h) j) (sym (value_same s index script right r p second h) j)))
        (jump_where_same (meets op (order (operand_value p left) (operand_value p right))) place r p h),
  )

  pub print_same : (operands : List Operand) (r : SlotProcess) (p : Process) → HasOperands s.variables operands → Holds s index script r p
      → OwnSame (owned.Print (map (slot_operand s.variables) operands)) (instr.Print operands) r p
  print_same operands r p takes h = (
    print operands p,
    λ number c. refl,
    refl,
    subst (λ (vs : List Value). Holds s index script (slot_print_line (printed_line vs) r) (print operands p))
        (sym (values_same s index script operands r p takes h))
        (print_line_same (printed_line (operand_values p operands)) r p h),
  )

  pub exit_same : (status : Operand) (r : SlotProcess) (p : Process) → HasOperand s.variables status → Holds s index script r p
      → OwnSame (owned.Exit (slot_operand s.variables status)) (instr.Exit status) r p
  exit_same status r p takes h = (
    exit status p,
    λ number c. refl,
    refl,
    subst (λ (v : Value). Holds s index script (slot_ended (exit_status v) r) (exit status p))
        (sym (value_same s index script status r p takes h))
        (holds_ended s index script (exit_status (operand_value p status)) r p h),
  )
