-- A process over slots still represents its process of the model after each change of an instruction.
use Rattle.std.proofs.Common.{◌≡◌, ℕ, ◌+◌, List, [], ◌∷◌, ◌++◌, map, refl, sym, ap, ◌∙◌}
use Rattle.std.specs.Prelude.{Option, Some, None, slice_get, slice_set}
use Rattle.sql_model.specs.Meaning.{or_null}
use Rattle.script_parse.specs.declared.script.Operand.TheVariants as operand
use Rattle.proc_core.specs.Types.{Value, Instr, Operand}
use Rattle.run_model.specs.Core.{lookup, bind, unbind, OpenFile, Process}
use Rattle.run_model.specs.StepBase.{operand_value, operand_values, with_exit_status, went_on, went_to, with_variable, Computation, Yields, Misused, assign}
use Rattle.script_code.specs.declared.code.Scope.{Scope}
use Rattle.script_code.specs.Resolved.{slot_of, HasName, slot_operand, HasOperand, HasOperands, IsScope}
use Rattle.script_code.proofs.SlotLists.{get_slot, set_slot}
use Rattle.proc_core.specs.declared.process.SlotProcess.{SlotProcess}
use Rattle.proc_core.specs.inner.Slots.{flatten_option, open_at, child_at, slot_with_file, slot_value}
use Rattle.proc_core.specs.inner.Slots.{slot_values, slot_ended, slot_went_on, slot_went_to}
use Rattle.proc_core.specs.inner.Slots.{slot_with_variable, slot_assign}
use Rattle.proc_core.specs.Stands.{value_held, bound_value, Holds}
use Rattle.proc_core.proofs.Lookups.{lookup_bound, lookup_other, lookup_unbound, lookup_unbound_other}

-- ---- operands

module _ (s : Scope) (index : ℕ) (script : List Instr) where
  pub value_same : (o : Operand) (r : SlotProcess) (p : Process) → HasOperand s.variables o → Holds s index script r p
      → slot_value r (slot_operand s.variables o) ≡ operand_value p o
  value_same (operand.Constant v) r p has h = refl
  value_same (operand.Variable name) r p has h =
      ap (λ (vs : List Value). or_null (slice_get vs (slot_of s.variables name))) h.variables
      ∙ ap or_null (get_slot (value_held p.variables) s.variables name has)

  pub values_same : (os : List Operand) (r : SlotProcess) (p : Process) → HasOperands s.variables os → Holds s index script r p
      → slot_values r (map (slot_operand s.variables) os) ≡ operand_values p os
  values_same [] r p has h = refl
  values_same (o ∷ os) r p has h = λ i. value_same o r p has.0 h i ∷ values_same os r p has.1 h i

  -- ---- changes

  pub holds_ended : (status : ℕ) (r : SlotProcess) (p : Process) → Holds s index script r p
      → Holds s index script (slot_ended status r) (with_exit_status status p)
  holds_ended status r p h = record {
    code = h.code;
    runs = h.runs;
    name = h.name;
    place = h.place;
    variables = h.variables;
    files = h.files;
    cursors = h.cursors;
    replied = h.replied;
    children = h.children;
    spawned = h.spawned;
    printed = h.printed;
    replies = h.replies;
    status = refl;
  }

  pub holds_went_to : (place : ℕ) (r : SlotProcess) (p : Process) → Holds s index script r p
      → Holds s index script (slot_went_to place r) (went_to place p)
  holds_went_to place r p h = record {
    code = h.code;
    runs = h.runs;
    name = h.name;
    place = refl;
    variables = h.variables;
    files = h.files;
    cursors = h.cursors;
    replied = h.replied;
    children = h.children;
    spawned = h.spawned;
    printed = h.printed;
    replies = h.replies;
    status = h.status;
  }

  pub holds_went_on : (r : SlotProcess) (p : Process) → Holds s index script r p
      → Holds s index script (slot_went_on r) (went_on p)
  holds_went_on r p h = record {
    code = h.code;
    runs = h.runs;
    name = h.name;
    place = ap (λ (n : ℕ). n + 1) h.place;
    variables = h.variables;
    files = h.files;
    cursors = h.cursors;
    replied = h.replied;
    children = h.children;
    spawned = h.spawned;
    printed = h.printed;
    replies = h.replies;
    status = h.status;
  }

  pub holds_variable : (name : List ℕ) (v : Value) (r : SlotProcess) (p : Process) → IsScope s → HasName s.variables name
      → Holds s index script r p
      → Holds s index script (slot_with_variable (slot_of s.variables name) v r) (with_variable name v p)
  holds_variable name v r p scope has h =
      let slot : ℕ = slot_of s.variables name in
      let f : List ℕ → Value = value_held p.variables in
      let g : List ℕ → Value = value_held (bind name v p.variables) in
      let bound : g name ≡ v = ap or_null (lookup_bound name v p.variables) in
      let set : slice_set (map f s.variables) slot (g name) ≡ map g s.variables =
      set_slot f g s.variables name scope.variables has (λ n other. ap or_null (lookup_other name n v p.variables other)) in
      record {
        code = h.code;
        runs = h.runs;
        name = h.name;
        place = h.place;
        variables = ap (λ (vs : List Value). slice_set vs slot v) h.variables
            ∙ ap (λ (w : Value). slice_set (map f s.variables) slot w) (sym bound) ∙ set;
        files = h.files;
        cursors = h.cursors;
        replied = h.replied;
        children = h.children;
        spawned = h.spawned;
        printed = h.printed;
        replies = h.replies;
        status = h.status;
      }

  pub holds_printed : (text : List ℕ) (r : SlotProcess) (p : Process) → Holds s index script r p
      → Holds s index script (record r { printed = r.printed ++ text }) (record p { printed = p.printed ++ text })
  holds_printed text r p h = record {
    code = h.code;
    runs = h.runs;
    name = h.name;
    place = h.place;
    variables = h.variables;
    files = h.files;
    cursors = h.cursors;
    replied = h.replied;
    children = h.children;
    spawned = h.spawned;
    printed = ap (λ (l : List ℕ). l ++ text) h.printed;
    replies = h.replies;
    status = h.status;
  }

  pub holds_assign : (name : List ℕ) (c : Computation) (r : SlotProcess) (p : Process) → IsScope s → HasName s.variables name
      → Holds s index script r p → Holds s index script (slot_assign (slot_of s.variables name) c r) (assign name c p)
  holds_assign name (Yields v) r p scope has h =
      holds_went_on (slot_with_variable (slot_of s.variables name) v r) (with_variable name v p)
      (holds_variable name v r p scope has h)
  holds_assign name (Misused status) r p scope has h = holds_ended status r p h

  -- what a name of a file means
  pub open_same : (name : List ℕ) (r : SlotProcess) (p : Process) → HasName s.files name → Holds s index script r p
      → open_at (slot_of s.files name) r ≡ lookup name p.files
  open_same name r p has h =
      ap (λ (l : List (Option OpenFile)). flatten_option (slice_get l (slot_of s.files name))) h.files
      ∙ ap flatten_option (get_slot (bound_value p.files) s.files name has)

  pub holds_file : (name : List ℕ) (file : OpenFile) (r : SlotProcess) (p : Process) → IsScope s → HasName s.files name
      → Holds s index script r p
      → Holds s index script (slot_with_file (slot_of s.files name) (Some file) r) (record p { files = bind name file p.files })
  holds_file name file r p scope has h =
      let slot : ℕ = slot_of s.files name in
      let f : List ℕ → Option OpenFile = bound_value p.files in
      let g : List ℕ → Option OpenFile = bound_value (bind name file p.files) in
      let set : slice_set (map f s.files) slot (g name) ≡ map g s.files =
      set_slot f g s.files name scope.files has (λ n other. lookup_other name n file p.files other) in
      record {
        code = h.code;
        runs = h.runs;
        name = h.name;
        place = h.place;
        variables = h.variables;
        files = ap (λ (l : List (Option OpenFile)). slice_set l slot (Some file)) h.files
            ∙ ap (λ (o : Option OpenFile). slice_set (map f s.files) slot o) (sym (lookup_bound name file p.files)) ∙ set;
        cursors = h.cursors;
        replied = h.replied;
        children = h.children;
        spawned = h.spawned;
        printed = h.printed;
        replies = h.replies;
        status = h.status;
      }

  pub holds_closed : (name : List ℕ) (r : SlotProcess) (p : Process) → IsScope s → HasName s.files name
      → Holds s index script r p
      → Holds s index script (slot_with_file (slot_of s.files name) None r) (record p { files = unbind name p.files })
  holds_closed name r p scope has h =
      let slot : ℕ = slot_of s.files name in
      let f : List ℕ → Option OpenFile = bound_value p.files in
      let g : List ℕ → Option OpenFile = bound_value (unbind name p.files) in
      let set : slice_set (map f s.files) slot (g name) ≡ map g s.files =
      set_slot f g s.files name scope.files has (λ n other. lookup_unbound_other name n p.files other) in
      record {
        code = h.code;
        runs = h.runs;
        name = h.name;
        place = h.place;
        variables = h.variables;
        files = ap (λ (l : List (Option OpenFile)). slice_set l slot None) h.files
            ∙ ap (λ (o : Option OpenFile). slice_set (map f s.files) slot o) (sym (lookup_unbound name p.files)) ∙ set;
        cursors = h.cursors;
        replied = h.replied;
        children = h.children;
        spawned = h.spawned;
        printed = h.printed;
        replies = h.replies;
        status = h.status;
      }

  -- what a name of a child means
  pub child_same : (name : List ℕ) (r : SlotProcess) (p : Process) → HasName s.children name → Holds s index script r p
      → child_at (slot_of s.children name) r ≡ lookup name p.children
  child_same name r p has h =
      ap (λ (l : List (Option ℕ)). flatten_option (slice_get l (slot_of s.children name))) h.children
      ∙ ap flatten_option (get_slot (bound_value p.children) s.children name has)
