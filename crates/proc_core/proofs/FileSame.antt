-- An instruction that changes its own process and files, over slots and as it is defined.
use Rattle.std.proofs.Common.{◌≡◌, ℕ, List, [], length, map, refl, sym, ap, subst, Bool, true, false}
use Rattle.std.specs.Prelude.{Option, Some, None, pos, option_and_then}
use Rattle.ldv_value.specs.FileState.{FileState, is_there, FileRefusal, open_refusal, has_room, rest_at, copy_end, read_line}
use Rattle.ldv_value.specs.declared.file.OpenMode.{OpenMode}
use Rattle.ldv_value.specs.declared.line.LineRead.{LineRead}
use Rattle.ldv_value.specs.declared.line.LineRead.TheVariants as lines
use Rattle.proc_core.specs.Types.{Value, Int, Text, Instr, Operand}
use Rattle.run_model.specs.Core.{OpenFile, Process}
use Rattle.run_model.specs.StepBase.{operand_values, with_exit_status, wrong_kind, too_long_status, bad_path, not_utf8, with_variable, FileEffect}
use Rattle.run_model.specs.StepFiles.{path_in, path_at, allows_read, allows_write, if_allowed, open_for, at_place, opened_file, with_open, open_unless, open_path, take_line, read_next, write_where, write_text, write_line, copy_where, copy_between, copy_rest, remove_found, remove_path, number_of_test, test_path}
use Rattle.run_model.specs.StepVariables.{printed_line}
use Rattle.script_code.specs.declared.code.Scope.{Scope}
use Rattle.script_code.specs.Resolved.{slot_of, HasName, slot_operand, HasOperand, HasOperands, IsScope}
use Rattle.proc_core.specs.declared.process.SlotProcess.{SlotProcess}
use Rattle.proc_core.specs.inner.Slots.{slot_ended, slot_value, slot_values, slot_with_variable}
use Rattle.proc_core.specs.inner.Slots.{slot_with_file}
use Rattle.proc_core.specs.Stands.{Holds}
use Rattle.proc_core.specs.inner.SlotFiles.{SlotEffect, slot_open_unless, slot_open_path, slot_open_for, slot_at_place, slot_take_line, slot_read_next, slot_write_where, slot_write_text, slot_copy_where, slot_copy_between, slot_remove_found, slot_remove, slot_exists}
use Rattle.proc_core.proofs.Holding.{value_same, values_same, holds_ended, holds_went_to, holds_went_on, holds_variable, holds_file, open_same}

module _ (s : Scope) (index : ℕ) (script : List Instr) where
  -- what is left of the process is held, and the files and the acts are the same
  pub record SameEffect (e : SlotEffect) (f : FileEffect) : Type 0 where
    pub process : Holds s index script e.process f.process
    pub files : e.files ≡ f.files
    pub acts : e.acts ≡ f.acts

  misused_same : (status : ℕ) (r : SlotProcess) (p : Process) (st : FileState) → Holds s index script r p
      → SameEffect (record { process = slot_ended status r; files = st; acts = [] }) (record { process = with_exit_status status p; files = st; acts = [] })
  misused_same status r p st h = record { process = holds_ended s index script status r p h; files = refl; acts = refl }

  -- ---- `open`

  open_unless_same : (refusal : Option FileRefusal) (found : Bool) (name : List ℕ) (mode : OpenMode) (path : List ℕ) (place : ℕ)
      (r : SlotProcess) (p : Process) (st : FileState) → IsScope s → HasName s.files name → Holds s index script r p
      → SameEffect (slot_open_unless refusal found (slot_of s.files name) mode path place r st) (open_unless refusal found name mode path place p st)
  open_unless_same (Some refusal) found name mode path place r p st scope has h =
      record { process = holds_went_to s index script place r p h; files = refl; acts = refl }
  open_unless_same None found name mode path place r p st scope has h =
      let file : OpenFile = opened_file path mode in
      record {
        process = holds_went_on s index script (slot_with_file (slot_of s.files name) (Some file) r) (with_open name file p)
            (holds_file s index script name file r p scope has h);
        files = refl;
        acts = refl;
      }

  open_path_same : (path : Option (List ℕ)) (name : List ℕ) (mode : OpenMode) (place : ℕ)
      (r : SlotProcess) (p : Process) (st : FileState) → IsScope s → HasName s.files name → Holds s index script r p
      → SameEffect (slot_open_path path (slot_of s.files name) mode place r st) (open_path name mode path place p st)
  open_path_same None name mode place r p st scope has h = misused_same bad_path r p st h
  open_path_same (Some path) name mode place r p st scope has h =
      open_unless_same (open_refusal mode (is_there st path)) (is_there st path) name mode path place r p st scope has h

  -- ---- open files

  open_for_same : (allows : OpenMode → Bool) (name : List ℕ) (r : SlotProcess) (p : Process) → HasName s.files name → Holds s index script r p
      → slot_open_for allows (slot_of s.files name) r ≡ open_for allows name p
  open_for_same allows name r p has h = ap (option_and_then (if_allowed allows)) (open_same s index script name r p has h)

  -- ---- `readline`

  take_line_same : (read : LineRead) (to name : List ℕ) (file : OpenFile) (place : ℕ) (r : SlotProcess) (p : Process)
      → IsScope s → HasName s.variables to → HasName s.files name → Holds s index script r p
      → Holds s index script (slot_take_line read (slot_of s.variables to) (slot_of s.files name) file place r) (take_line read to name file place p)
  take_line_same lines.End to name file place r p scope has more h = holds_went_to s index script place r p h
  take_line_same (lines.Line line next) to name file place r p scope has more h =
      let r1 : SlotProcess = slot_at_place (slot_of s.files name) file next r in
      let p1 : Process = at_place name file next p in
      let h1 : Holds s index script r1 p1 = holds_file s index script name (record file { place = next }) r p scope more h in
      holds_went_on s index script (slot_with_variable (slot_of s.variables to) (Text line) r1) (with_variable to (Text line) p1)
      (holds_variable s index script to (Text line) r1 p1 scope has h1)
  take_line_same lines.TooLong to name file place r p scope has more h = holds_ended s index script too_long_status r p h
  take_line_same lines.NotText to name file place r p scope has more h = holds_ended s index script not_utf8 r p h

  read_next_same : (file : Option OpenFile) (to name : List ℕ) (place : ℕ) (r : SlotProcess) (p : Process) (st : FileState)
      → IsScope s → HasName s.variables to → HasName s.files name → Holds s index script r p
      → SameEffect (slot_read_next file (slot_of s.variables to) (slot_of s.files name) place r st) (read_next file to name place p st)
  read_next_same None to name place r p st scope has more h = misused_same wrong_kind r p st h
  read_next_same (Some file) to name place r p st scope has more h = record {
    process = take_line_same (read_line st file.path file.place) to name file place r p scope has more h;
    files = refl;
    acts = refl;
  }

  -- ---- `write`

  write_where_same : (room : Bool) (file : OpenFile) (text : List ℕ) (r : SlotProcess) (p : Process) (st : FileState) → Holds s index script r p
      → SameEffect (slot_write_where room file text r st) (write_where room file text p st)
  write_where_same false file text r p st h = misused_same too_long_status r p st h
  write_where_same true file text r p st h = record { process = holds_went_on s index script r p h; files = refl; acts = refl }

  write_text_same : (file : Option OpenFile) (text : List ℕ) (r : SlotProcess) (p : Process) (st : FileState) → Holds s index script r p
      → SameEffect (slot_write_text file text r st) (write_text file text p st)
  write_text_same None text r p st h = misused_same wrong_kind r p st h
  write_text_same (Some file) text r p st h = write_where_same (has_room st file.path (length text)) file text r p st h

  -- ---- `copy`

  copy_where_same : (room : Bool) (name : List ℕ) (source target : OpenFile) (r : SlotProcess) (p : Process) (st : FileState)
      → IsScope s → HasName s.files name → Holds s index script r p
      → SameEffect (slot_copy_where room (slot_of s.files name) source target r st) (copy_where room name source target p st)
  copy_where_same false name source target r p st scope has h =
      record { process = holds_ended s index script too_long_status r p h; files = refl; acts = refl }
  copy_where_same true name source target r p st scope has h =
      let next : ℕ = copy_end st source.path source.place in
      record {
        process = holds_went_on s index script (slot_at_place (slot_of s.files name) source next r) (at_place name source next p)
            (holds_file s index script name (record source { place = next }) r p scope has h);
        files = refl;
        acts = refl;
      }

  copy_between_same : (source target : Option OpenFile) (name : List ℕ) (r : SlotProcess) (p : Process) (st : FileState)
      → IsScope s → HasName s.files name → Holds s index script r p
      → SameEffect (slot_copy_between (slot_of s.files name) source target r st) (copy_between name source target p st)
  copy_between_same None target name r p st scope has h = misused_same wrong_kind r p st h
  copy_between_same (Some source) None name r p st scope has h = misused_same wrong_kind r p st h
  copy_between_same (Some source) (Some target) name r p st scope has h =
      copy_where_same (has_room st target.path (length (rest_at st source.path source.place))) name source target r p st scope has h

  -- ---- `remove` and `exists`

  remove_found_same : (found : Bool) (path : List ℕ) (place : ℕ) (r : SlotProcess) (p : Process) (st : FileState) → Holds s index script r p
      → SameEffect (slot_remove_found found path place r st) (remove_found found path place p st)
  remove_found_same false path place r p st h = record { process = holds_went_to s index script place r p h; files = refl; acts = refl }
  remove_found_same true path place r p st h = record { process = holds_went_on s index script r p h; files = refl; acts = refl }

  remove_same : (path : Option (List ℕ)) (place : ℕ) (r : SlotProcess) (p : Process) (st : FileState) → Holds s index script r p
      → SameEffect (slot_remove path place r st) (remove_path path place p st)
  remove_same None place r p st h = misused_same bad_path r p st h
  remove_same (Some path) place r p st h = remove_found_same (is_there st path) path place r p st h

  exists_same : (path : Option (List ℕ)) (to : List ℕ) (r : SlotProcess) (p : Process) (st : FileState)
      → IsScope s → HasName s.variables to → Holds s index script r p
      → SameEffect (slot_exists path (slot_of s.variables to) r st) (test_path to path p st)
  exists_same None to r p st scope has h = misused_same bad_path r p st h
  exists_same (Some path) to r p st scope has h =
      let v : Value = Int (pos (number_of_test (is_there st path))) in
      record {
        process = holds_went_on s index script (slot_with_variable (slot_of s.variables to) v r) (with_variable to v p)
            (holds_variable s index script to v r p scope has h);
        files = refl;
        acts = refl;
      }

  -- ---- each instruction

  path_same : (path : Operand) (r : SlotProcess) (p : Process) → HasOperand s.variables path → Holds s index script r p
      → path_in (slot_value r (slot_operand s.variables path)) ≡ path_at path p
  path_same path r p has h = ap path_in (value_same s index script path r p has h)

  pub open_path_effect : (name : List ℕ) (mode : OpenMode) (path : Operand) (place : ℕ) (r : SlotProcess) (p : Process) (st : FileState)
      → IsScope s → HasName s.files name → HasOperand s.variables path → Holds s index script r p
      → SameEffect (slot_open_path (path_in (slot_value r (slot_operand s.variables path))) (slot_of s.files name) mode place r st)
      (open_path name mode (path_at path p) place p st)
  open_path_effect name mode path place r p st scope has takes h =
      subst (λ (o : Option (List ℕ)). SameEffect (slot_open_path o (slot_of s.files name) mode place r st) (open_path name mode (path_at path p) place p st))
      (sym (path_same path r p takes h)) (open_path_same (path_at path p) name mode place r p st scope has h)

  pub read_line_effect : (to name : List ℕ) (place : ℕ) (r : SlotProcess) (p : Process) (st : FileState)
      → IsScope s → HasName s.variables to → HasName s.files name → Holds s index script r p
      → SameEffect (slot_read_next (slot_open_for allows_read (slot_of s.files name) r) (slot_of s.variables to) (slot_of s.files name) place r st)
      (read_next (open_for allows_read name p) to name place p st)
  read_line_effect to name place r p st scope has more h =
      subst (λ (o : Option OpenFile). SameEffect (slot_read_next o (slot_of s.variables to) (slot_of s.files name) place r st) (read_next (open_for allows_read name p) to name place p st))
      (sym (open_for_same allows_read name r p more h)) (read_next_same (open_for allows_read name p) to name place r p st scope has more h)

  pub write_line_effect : (name : List ℕ) (operands : List Operand) (r : SlotProcess) (p : Process) (st : FileState)
      → HasName s.files name → HasOperands s.variables operands → Holds s index script r p
      → SameEffect (slot_write_text (slot_open_for allows_write (slot_of s.files name) r) (printed_line (slot_values r (map (slot_operand s.variables) operands))) r st)
      (write_line name operands p st)
  write_line_effect name operands r p st has takes h =
      subst (λ (o : Option OpenFile × List Value). SameEffect (slot_write_text o.0 (printed_line o.1) r st) (write_line name operands p st))
      (λ i. (sym (open_for_same allows_write name r p has h) i, sym (values_same s index script operands r p takes h) i))
      (write_text_same (open_for allows_write name p) (printed_line (operand_values p operands)) r p st h)

  pub copy_effect : (source target : List ℕ) (r : SlotProcess) (p : Process) (st : FileState)
      → IsScope s → HasName s.files source → HasName s.files target → Holds s index script r p
      → SameEffect (slot_copy_between (slot_of s.files source) (slot_open_for allows_read (slot_of s.files source) r) (slot_open_for allows_write (slot_of s.files target) r) r st)
      (copy_rest source target p st)
  copy_effect source target r p st scope has more h =
      subst (λ (o : Option OpenFile × Option OpenFile). SameEffect (slot_copy_between (slot_of s.files source) o.0 o.1 r st) (copy_rest source target p st))
      (λ i. (sym (open_for_same allows_read source r p has h) i, sym (open_for_same allows_write target r p more h) i))
      (copy_between_same (open_for allows_read source p) (open_for allows_write target p) source r p st scope has h)

  pub remove_effect : (path : Operand) (place : ℕ) (r : SlotProcess) (p : Process) (st : FileState)
      → HasOperand s.variables path → Holds s index script r p
      → SameEffect (slot_remove (path_in (slot_value r (slot_operand s.variables path))) place r st) (remove_path (path_at path p) place p st)
  remove_effect path place r p st takes h =
      subst (λ (o : Option (List ℕ)). SameEffect (slot_remove o place r st) (remove_path (path_at path p) place p st))
      (sym (path_same path r p takes h)) (remove_same (path_at path p) place r p st h)

  pub exists_effect : (to : List ℕ) (path : Operand) (r : SlotProcess) (p : Process) (st : FileState)
      → IsScope s → HasName s.variables to → HasOperand s.variables path → Holds s index script r p
      → SameEffect (slot_exists (path_in (slot_value r (slot_operand s.variables path))) (slot_of s.variables to) r st) (test_path to (path_at path p) p st)
  exists_effect to path r p st scope has takes h =
      subst (λ (o : Option (List ℕ)). SameEffect (slot_exists o (slot_of s.variables to) r st) (test_path to (path_at path p) p st))
      (sym (path_same path r p takes h)) (exists_same (path_at path p) to r p st scope has h)
