-- Names that keep their slots as others are added.
use Rattle.std.proofs.Common.{◌≡◌, ℕ, List, [], ◌∷◌, map, refl, sym, ap, ◌∙◌, subst}
use Rattle.script_parse.specs.declared.script.Instr.TheVariants as instr
use Rattle.script_parse.specs.declared.script.Operand.TheVariants as operand
use Rattle.script_parse.specs.declared.script.Instr.{Instr}
use Rattle.script_parse.specs.declared.script.Operand.{Operand}
use Rattle.script_code.specs.declared.code.Scope.{Scope}
use Rattle.script_code.specs.declared.code.SlotInstr.{SlotInstr}
use Rattle.script_code.specs.declared.code.SlotInstr.TheVariants.{Own, OnFiles, Spawn, Wait, Sql}
use Rattle.script_code.specs.declared.code.OwnInstr.TheVariants as own
use Rattle.script_code.specs.declared.code.FileInstr.TheVariants as on_files
use Rattle.script_code.specs.declared.code.SlotOperand.{SlotOperand}
use Rattle.script_code.specs.declared.code.SlotOperand.TheVariants.{Slot}
use Rattle.script_code.specs.Resolved.{AreDistinct, slot_of, slot_operand, slot_instr, HasName, HasNames, HasOperand, HasOperands, HasAll, Extends, KeepsAll}
use Rattle.script_code.specs.Resolved.{IsSlot, AreSlots, IsOperand, IsOperands, Resolves, IsScope}

-- ---- tables

pub keeps_same : (names new : List (List ℕ)) → new ≡ names → Extends names new
keeps_same names new same = record {
  at = λ name slot is. subst (λ (ns : List (List ℕ)). IsSlot ns name slot) (sym same) is;
  distinct = λ once. subst AreDistinct (sym same) once;
}

pub keeps_itself : (names : List (List ℕ)) → Extends names names
keeps_itself names = record { at = λ name slot is. is; distinct = λ once. once }

pub distinct_none : (names : List (List ℕ)) → names ≡ [] → AreDistinct names
distinct_none names none = subst AreDistinct (sym none) tt

module _ (a b : List (List ℕ)) where
  pub kept_distinct : Extends a b → AreDistinct a → AreDistinct b
  kept_distinct keeps distinct = keeps.distinct distinct

  pub keeps_on : (c : List (List ℕ)) → Extends a b → Extends b c → Extends a c
  keeps_on c first second = record {
    at = λ name slot is. second.at name slot (first.at name slot is);
    distinct = λ once. second.distinct (first.distinct once);
  }

  pub kept_slot : (name : List ℕ) (slot : ℕ) → Extends a b → IsSlot a name slot → IsSlot b name slot
  kept_slot name slot keeps is = keeps.at name slot is

  same_slot : (name : List ℕ) → Extends a b → HasName a name → slot_of a name ≡ slot_of b name
  same_slot name keeps has = (keeps.at name (slot_of a name) (refl, has)).0

  pub kept_name : (name : List ℕ) → Extends a b → HasName a name → HasName b name
  kept_name name keeps has = (keeps.at name (slot_of a name) (refl, has)).1

  -- ---- operands

  same_operand : (o : Operand) → Extends a b → HasOperand a o → slot_operand a o ≡ slot_operand b o
  same_operand (operand.Constant v) keeps has = refl
  same_operand (operand.Variable name) keeps has = λ j. Slot (same_slot name keeps has j)

  has_operand : (o : Operand) → Extends a b → HasOperand a o → HasOperand b o
  has_operand (operand.Constant v) keeps has = tt
  has_operand (operand.Variable name) keeps has = kept_name name keeps has

  pub kept_operand : (o : Operand) (slotted : SlotOperand) → Extends a b → IsOperand a o slotted → IsOperand b o slotted
  kept_operand o slotted keeps is = (is.0 ∙ same_operand o keeps is.1, has_operand o keeps is.1)

  same_operands : (os : List Operand) → Extends a b → HasOperands a os → map (slot_operand a) os ≡ map (slot_operand b) os
  same_operands [] keeps has = refl
  same_operands (o ∷ os) keeps has = λ j. same_operand o keeps has.0 j ∷ same_operands os keeps has.1 j

  has_operands : (os : List Operand) → Extends a b → HasOperands a os → HasOperands b os
  has_operands [] keeps has = tt
  has_operands (o ∷ os) keeps has = (has_operand o keeps has.0, has_operands os keeps has.1)

  pub kept_operands : (os : List Operand) (slotted : List SlotOperand) → Extends a b → IsOperands a os slotted → IsOperands b os slotted
  kept_operands os slotted keeps is = (is.0 ∙ same_operands os keeps is.1, has_operands os keeps is.1)

  -- ---- names

  same_names : (ns : List (List ℕ)) → Extends a b → HasNames a ns → map (slot_of a) ns ≡ map (slot_of b) ns
  same_names [] keeps has = refl
  same_names (n ∷ ns) keeps has = λ j. same_slot n keeps has.0 j ∷ same_names ns keeps has.1 j

  has_names : (ns : List (List ℕ)) → Extends a b → HasNames a ns → HasNames b ns
  has_names [] keeps has = tt
  has_names (n ∷ ns) keeps has = (kept_name n keeps has.0, has_names ns keeps has.1)

  pub kept_slots : (ns : List (List ℕ)) (slots : List ℕ) → Extends a b → AreSlots a ns slots → AreSlots b ns slots
  kept_slots ns slots keeps are = record { same = are.same ∙ same_names ns keeps are.has; has = has_names ns keeps are.has }

-- ---- scopes

module _ (s t : Scope) (k : KeepsAll s t) where
  variable_same : (n : List ℕ) → HasName s.variables n → slot_of s.variables n ≡ slot_of t.variables n
  variable_same n h = same_slot s.variables t.variables n k.variables h

  file_same : (n : List ℕ) → HasName s.files n → slot_of s.files n ≡ slot_of t.files n
  file_same n h = same_slot s.files t.files n k.files h

  cursor_same : (n : List ℕ) → HasName s.cursors n → slot_of s.cursors n ≡ slot_of t.cursors n
  cursor_same n h = same_slot s.cursors t.cursors n k.cursors h

  child_same : (n : List ℕ) → HasName s.children n → slot_of s.children n ≡ slot_of t.children n
  child_same n h = same_slot s.children t.children n k.children h

  operand_same : (o : Operand) → HasOperand s.variables o → slot_operand s.variables o ≡ slot_operand t.variables o
  operand_same o h = same_operand s.variables t.variables o k.variables h

  operands_same : (os : List Operand) → HasOperands s.variables os → map (slot_operand s.variables) os ≡ map (slot_operand t.variables) os
  operands_same os h = same_operands s.variables t.variables os k.variables h

  variables_same : (ns : List (List ℕ)) → HasNames s.variables ns → map (slot_of s.variables) ns ≡ map (slot_of t.variables) ns
  variables_same ns h = same_names s.variables t.variables ns k.variables h

  same_instr : (i : Instr) → HasAll s i → slot_instr s i ≡ slot_instr t i
  same_instr (instr.Let to value) h = λ j. Own (own.Let (variable_same to h.0 j) (operand_same value h.1 j))
  same_instr (instr.Calc to o left right) h = λ j. Own (own.Calc (variable_same to h.0 j) o (operand_same left h.1 j) (operand_same right h.2 j))
  same_instr (instr.Glue to left right) h = λ j. Own (own.Glue (variable_same to h.0 j) (operand_same left h.1 j) (operand_same right h.2 j))
  same_instr (instr.ToInt to value) h = λ j. Own (own.ToInt (variable_same to h.0 j) (operand_same value h.1 j))
  same_instr (instr.Cut before after by) h = λ j. Own (own.Cut (variable_same before h.0 j) (variable_same after h.1 j) (operand_same by h.2 j))
  same_instr (instr.Jump place) h = refl
  same_instr (instr.JumpIf o left right place) h = λ j. Own (own.JumpIf o (operand_same left h.0 j) (operand_same right h.1 j) place)
  same_instr (instr.Print operands) h = λ j. Own (own.Print (operands_same operands h j))
  same_instr (instr.Exit status) h = λ j. Own (own.Exit (operand_same status h j))
  same_instr (instr.OpenPath file mode path place) h = λ j. OnFiles (on_files.OpenPath (file_same file h.0 j) mode (operand_same path h.1 j) place)
  same_instr (instr.ReadLine to file place) h = λ j. OnFiles (on_files.ReadLine (variable_same to h.0 j) (file_same file h.1 j) place)
  same_instr (instr.WriteLine file operands) h = λ j. OnFiles (on_files.WriteLine (file_same file h.0 j) (operands_same operands h.1 j))
  same_instr (instr.CopyRest source target) h = λ j. OnFiles (on_files.CopyRest (file_same source h.0 j) (file_same target h.1 j))
  same_instr (instr.Close file) h = λ j. Own (own.Close (file_same file h j))
  same_instr (instr.Remove path place) h = λ j. OnFiles (on_files.Remove (operand_same path h j) place)
  same_instr (instr.Exists to path) h = λ j. OnFiles (on_files.Exists (variable_same to h.0 j) (operand_same path h.1 j))
  same_instr (instr.Spawn child path arguments place) h = λ j. Spawn (child_same child h.0 j) (operand_same path h.1 j) (operands_same arguments h.2 j) place
  same_instr (instr.Wait to child) h = λ j. Wait (variable_same to h.0 j) (child_same child h.1 j)
  same_instr (instr.Sql cursor text params) h = λ j. Sql (cursor_same cursor h.0 j) (operand_same text h.1 j) (operands_same params h.2 j)
  same_instr (instr.Fetch cursor to place) h = λ j. Own (own.Fetch (cursor_same cursor h.0 j) (variables_same to h.1 j) place)
  same_instr (instr.Count to cursor) h = λ j. Own (own.Count (variable_same to h.0 j) (cursor_same cursor h.1 j))
  same_instr (instr.Status to cursor) h = λ j. Own (own.Status (variable_same to h.0 j) (cursor_same cursor h.1 j))

  variable_kept : (n : List ℕ) → HasName s.variables n → HasName t.variables n
  variable_kept n h = kept_name s.variables t.variables n k.variables h

  file_kept : (n : List ℕ) → HasName s.files n → HasName t.files n
  file_kept n h = kept_name s.files t.files n k.files h

  cursor_kept : (n : List ℕ) → HasName s.cursors n → HasName t.cursors n
  cursor_kept n h = kept_name s.cursors t.cursors n k.cursors h

  child_kept : (n : List ℕ) → HasName s.children n → HasName t.children n
  child_kept n h = kept_name s.children t.children n k.children h

  operand_kept : (o : Operand) → HasOperand s.variables o → HasOperand t.variables o
  operand_kept o h = has_operand s.variables t.variables o k.variables h

  operands_kept : (os : List Operand) → HasOperands s.variables os → HasOperands t.variables os
  operands_kept os h = has_operands s.variables t.variables os k.variables h

  has_all : (i : Instr) → HasAll s i → HasAll t i
  has_all (instr.Let to value) h = (variable_kept to h.0, operand_kept value h.1)
  has_all (instr.Calc to o left right) h = (variable_kept to h.0, operand_kept left h.1, operand_kept right h.2)
  has_all (instr.Glue to left right) h = (variable_kept to h.0, operand_kept left h.1, operand_kept right h.2)
  has_all (instr.ToInt to value) h = (variable_kept to h.0, operand_kept value h.1)
  has_all (instr.Cut before after by) h = (variable_kept before h.0, variable_kept after h.1, operand_kept by h.2)
  has_all (instr.Jump place) h = tt
  has_all (instr.JumpIf o left right place) h = (operand_kept left h.0, operand_kept right h.1)
  has_all (instr.Print operands) h = operands_kept operands h
  has_all (instr.Exit status) h = operand_kept status h
  has_all (instr.OpenPath file mode path place) h = (file_kept file h.0, operand_kept path h.1)
  has_all (instr.ReadLine to file place) h = (variable_kept to h.0, file_kept file h.1)
  has_all (instr.WriteLine file operands) h = (file_kept file h.0, operands_kept operands h.1)
  has_all (instr.CopyRest source target) h = (file_kept source h.0, file_kept target h.1)
  has_all (instr.Close file) h = file_kept file h
  has_all (instr.Remove path place) h = operand_kept path h
  has_all (instr.Exists to path) h = (variable_kept to h.0, operand_kept path h.1)
  has_all (instr.Spawn child path arguments place) h = (child_kept child h.0, operand_kept path h.1, operands_kept arguments h.2)
  has_all (instr.Wait to child) h = (variable_kept to h.0, child_kept child h.1)
  has_all (instr.Sql cursor text params) h = (cursor_kept cursor h.0, operand_kept text h.1, operands_kept params h.2)
  has_all (instr.Fetch cursor to place) h = (cursor_kept cursor h.0, has_names s.variables t.variables to k.variables h.1)
  has_all (instr.Count to cursor) h = (variable_kept to h.0, cursor_kept cursor h.1)
  has_all (instr.Status to cursor) h = (variable_kept to h.0, cursor_kept cursor h.1)

  pub kept_instr : (i : Instr) (slotted : SlotInstr) → Resolves s i slotted → Resolves t i slotted
  kept_instr i slotted is = (is.0 ∙ same_instr i is.1, has_all i is.1)

  pub kept_scope : IsScope s → IsScope t
  kept_scope scope = record {
    variables = k.variables.distinct scope.variables;
    files = k.files.distinct scope.files;
    cursors = k.cursors.distinct scope.cursors;
    children = k.children.distinct scope.children;
  }

  pub keeps_all_on : (u : Scope) → KeepsAll t u → KeepsAll s u
  keeps_all_on u second = record {
    variables = keeps_on s.variables t.variables u.variables k.variables second.variables;
    files = keeps_on s.files t.files u.files k.files second.files;
    cursors = keeps_on s.cursors t.cursors u.cursors k.cursors second.cursors;
    children = keeps_on s.children t.children u.children k.children second.children;
  }

pub keeps_all_itself : (s : Scope) → KeepsAll s s
keeps_all_itself s = record {
  variables = keeps_itself s.variables;
  files = keeps_itself s.files;
  cursors = keeps_itself s.cursors;
  children = keeps_itself s.children;
}

pub ruleset known_steps = (kept_name, kept_slot, kept_operand, kept_operands, kept_slots, keeps_on, keeps_same, kept_distinct)
