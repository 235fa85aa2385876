-- A step that asks nothing is the same over two cores that differ only in their files, if the files agree.
use Rattle.std.proofs.Common.{◌≡◌, ℕ, zero, suc, List, [], ◌∷◌, ◌++◌, length, refl, sym, ap, ◌∙◌, subst, Bool, true, false, arith}
use Rattle.std.specs.Prelude.{Option, Some, None, is_some, map, pos, slice_get, slice_set}
use Rattle.std.specs.List.{AllByRecursion}
use Rattle.ldv_value.specs.FileState.{FileState, content_at}
use Rattle.ldv_value.specs.Order.{order, meets}
use Rattle.ldv_value.proofs.SameBytes.{bytes_eq-itself}
use Rattle.ldv_value.proofs.Lists.{all-weaker}
use Rattle.script_parse.specs.declared.script.Instr.TheVariants as instr
use Rattle.run_laws.specs.Types.{Value, Int, Variable, Instr, Act, Spawned, Unspawned, Waited, Ended, Event}
use Rattle.run_model.specs.Core.{NameBinding, lookup, OpenFile, Process, Core}
use Rattle.run_model.specs.Events.{event_at}
use Rattle.run_model.specs.Step.{Effect, own, execute, execute_next, local_step_of, local_step, end_acts, status_acts, ends_at}
use Rattle.run_model.specs.StepBase.{operand_value, operand_values, with_exit_status, went_on, went_to, with_variable, process_effect, FileEffect, on_files}
use Rattle.run_model.specs.StepFiles.{path_at, open_for, allows_read, allows_write, open_path, read_next, write_line, copy_rest, remove_path, test_path}
use Rattle.run_model.specs.StepProcesses.{SpawnRequest, child_of, parent_of, spawn_script, script_within, spawn_file, spawn_path, spawning_of, status_in, wait_until, wait_for}
use Rattle.run_model.specs.StepReplies.{row_count, status_value}
use Rattle.run_model.specs.StepVariables.{calculation, to_number, printed_line, exit_status}
use Rattle.run_model.proofs.StepKeeps.{AllFiles, open_holds, Keeps, keeps_place, keeps_variable, keeps_end, keeps_assign, keeps_glue, keeps_cut, keeps_jump, keeps_line, keeps_fetch, keeps_close, calculated_byte, to_number_byte, counted_byte, status_value_byte, exit_byte}
use Rattle.run_laws.proofs.FilesAgree.{Agrees, SameAt, later_agrees, whole_at, absent_at}
use Rattle.run_laws.proofs.FilesSame.{FileSame, open_same, read_same, write_same, copy_same, remove_same, test_same}
use Rattle.ldv_value.proofs.ItemLists.{all_append}
use Rattle.run_laws.proofs.ProcessPlaces.{set_all}

-- the core with other files
abbrev pub with_files : FileState → Core → Core
with_files files c = record c { files = files }

-- ---- the paths of open files have the same bytes in both

abbrev pub OpenSame : FileState → FileState → Process → Type 0
OpenSame a b p = AllFiles (SameAt a b) p.files

abbrev pub AllOpen : FileState → FileState → List Process → Type 0
AllOpen a b ps = AllByRecursion (OpenSame a b) ps

pub found_open : (a b : FileState) (ps : List Process) (k : ℕ) (p : Process) → AllOpen a b ps → slice_get ps k ≡ Some p → OpenSame a b p
found_open a b [] zero p all is = absurd cc
found_open a b [] (suc k) p all is = absurd cc
found_open a b (q ∷ ps) zero p all is = let same : q ≡ p = cc in subst (OpenSame a b) same all.0
found_open a b (q ∷ ps) (suc k) p all is = found_open a b ps k p all.1 is

module _ (a b c d : FileState) (follows : (path : List ℕ) → SameAt a b path → SameAt c d path) where
  still_open : (p : Process) → OpenSame a b p → OpenSame c d p
  still_open p all =
      all-weaker (λ (f : NameBinding OpenFile). SameAt a b f.bound.path) (λ (f : NameBinding OpenFile). SameAt c d f.bound.path)
      (λ f same. follows f.bound.path same) p.files all

  still_all : (ps : List Process) → AllOpen a b ps → AllOpen c d ps
  still_all ps all = all-weaker (OpenSame a b) (OpenSame c d) (λ p here. still_open p here) ps all

-- ---- a step

-- the core and the acts of a step from a core with other files, which agree afterwards
pub record EffectSame (later : List Event) (small whole : Effect) : Type 0 where
  pub files : FileState
  pub core : small.core ≡ with_files files whole.core
  pub acts : small.acts ≡ whole.acts
  pub agrees : Agrees later files whole.core.files
  pub opened : AllOpen files whole.core.files whole.core.processes

module _ (step number : ℕ) (later : List Event) where
  abbrev acted : List Act → List Event
  acted acts = map (event_at step number) acts ++ later

  noted_same : (q : Process) (acts : List Act) (a : FileState) (c : Core) → OpenSame a c.files q → AllOpen a c.files c.processes
      → Agrees later a c.files → EffectSame later (process_effect number q acts (with_files a c)) (process_effect number q acts c)
  noted_same q acts a c here all agrees = record {
    files = a;
    core = refl;
    acts = refl;
    agrees = agrees;
    opened = set_all (OpenSame a c.files) c.processes number q here all;
  }

  own_same : (p q : Process) (a : FileState) (c : Core) → Keeps (SameAt a c.files) p q → OpenSame a c.files p
      → AllOpen a c.files c.processes → Agrees later a c.files → EffectSame later (own number q (with_files a c)) (own number q c)
  own_same p q a c keeps here all agrees = noted_same q [] a c (keeps.files here) all agrees

  files_same : (p : Process) (a : FileState) (c : Core) (small whole : FileEffect) → FileSame later p a c.files small whole
      → OpenSame a c.files p → AllOpen a c.files c.processes
      → EffectSame later (on_files number small (with_files a c)) (on_files number whole c)
  files_same p a c small whole same here all = record {
    files = small.files;
    core = λ j. record c { files = small.files; processes = slice_set c.processes number (same.process j) };
    acts = same.acts;
    agrees = same.state.agrees;
    opened =
        set_all (OpenSame small.files whole.files) c.processes number whole.process
        (same.keeps.files (still_open a c.files small.files whole.files same.state.follows p here))
        (still_all a c.files small.files whole.files same.state.follows c.processes all);
  }

  -- ---- spawn

  script_same : (o : Option (List Instr)) (spawning : SpawnRequest) (path : List ℕ) (p : Process) (a : FileState) (c : Core)
      → OpenSame a c.files p → AllOpen a c.files c.processes
      → Agrees (acted (spawn_script o spawning path number p c).acts) a c.files
      → EffectSame later (spawn_script o spawning path number p (with_files a c)) (spawn_script o spawning path number p c)
  script_same None spawning path p a c here all agrees =
      noted_same (went_to spawning.place p) (Unspawned path true ∷ []) a c here all
      (later_agrees (event_at step number (Unspawned path true)) later a c.files refl agrees)
  script_same (Some script) spawning path p a c here all agrees = record {
    files = a;
    core = refl;
    acts = refl;
    agrees = later_agrees (event_at step number (Spawned path)) later a c.files refl agrees;
    opened =
        all_append (OpenSame a c.files) (slice_set c.processes number (parent_of (length c.processes) spawning.child p))
        (child_of p script spawning.arguments ∷ [])
        (set_all (OpenSame a c.files) c.processes number (parent_of (length c.processes) spawning.child p) here all) (tt, tt);
  }

  -- the file is needed whole
  script_whole : (o : Option (List Instr)) (spawning : SpawnRequest) (path : List ℕ) (p : Process) (a : FileState) (c : Core)
      → Agrees (acted (spawn_script o spawning path number p c).acts) a c.files → SameAt a c.files path
  script_whole None spawning path p a c agrees =
      whole_at path (event_at step number (Unspawned path true)) later a c.files (bytes_eq-itself path) agrees
  script_whole (Some script) spawning path p a c agrees =
      whole_at path (event_at step number (Spawned path)) later a c.files (bytes_eq-itself path) agrees

  file_same : (o : Option (List ℕ)) (spawning : SpawnRequest) (path : List ℕ) (p : Process) (a : FileState) (c : Core)
      → content_at c.files path ≡ o → OpenSame a c.files p → AllOpen a c.files c.processes
      → Agrees (acted (spawn_file o spawning path number p c).acts) a c.files
      → EffectSame later (spawn_file (content_at a path) spawning path number p (with_files a c)) (spawn_file o spawning path number p c)
  file_same None spawning path p a c is here all agrees =
      let none : content_at a path ≡ None =
      absent_at path (acted (Unspawned path false ∷ [])) a c.files agrees (ap is_some is) ∙ is in
      subst
      (λ (o : Option (List ℕ)). EffectSame later (spawn_file o spawning path number p (with_files a c)) (spawn_file None spawning path number p c))
      (sym none)
      (noted_same (went_to spawning.place p) (Unspawned path false ∷ []) a c here all
      (later_agrees (event_at step number (Unspawned path false)) later a c.files refl agrees))
  file_same (Some bytes) spawning path p a c is here all agrees =
      let found : content_at a path ≡ Some bytes = script_whole (script_within c bytes) spawning path p a c agrees ∙ is in
      subst
      (λ (o : Option (List ℕ)). EffectSame later (spawn_file o spawning path number p (with_files a c)) (spawn_file (Some bytes) spawning path number p c))
      (sym found)
      (script_same (script_within c bytes) spawning path p a c here all agrees)

  spawn_same : (o : Option (List ℕ)) (spawning : SpawnRequest) (p : Process) (a : FileState) (c : Core)
      → OpenSame a c.files p → AllOpen a c.files c.processes
      → Agrees (acted (spawn_path o spawning number p c).acts) a c.files
      → EffectSame later (spawn_path o spawning number p (with_files a c)) (spawn_path o spawning number p c)
  spawn_same None spawning p a c here all agrees =
      own_same p (with_exit_status 243 p) a c (keeps_end (SameAt a c.files) 243 p (omega arith)) here all agrees
  spawn_same (Some path) spawning p a c here all agrees =
      file_same (content_at c.files path) spawning path p a c refl here all agrees

  -- ---- wait

  until_same : (o : Option ℕ) (child : ℕ) (to : List ℕ) (p : Process) (a : FileState) (c : Core)
      → OpenSame a c.files p → AllOpen a c.files c.processes
      → Agrees (acted (wait_until o child to number p c).acts) a c.files
      → EffectSame later (wait_until o child to number p (with_files a c)) (wait_until o child to number p c)
  until_same None child to p a c here all agrees = record { files = a; core = refl; acts = refl; agrees = agrees; opened = all }
  until_same (Some status) child to p a c here all agrees =
      noted_same (went_on (with_variable to (Int (pos status)) p)) (Waited child ∷ []) a c here all
      (later_agrees (event_at step number (Waited child)) later a c.files refl agrees)

  wait_same : (o : Option ℕ) (to : List ℕ) (p : Process) (a : FileState) (c : Core)
      → OpenSame a c.files p → AllOpen a c.files c.processes
      → Agrees (acted (wait_for o to number p c).acts) a c.files
      → EffectSame later (wait_for o to number p (with_files a c)) (wait_for o to number p c)
  wait_same None to p a c here all agrees =
      own_same p (with_exit_status 240 p) a c (keeps_end (SameAt a c.files) 240 p (omega arith)) here all agrees
  wait_same (Some child) to p a c here all agrees = until_same (status_in c.processes child) child to p a c here all agrees

  -- ---- every instruction

  executes_same : (i : Instr) (p : Process) (a : FileState) (c : Core) → OpenSame a c.files p → AllOpen a c.files c.processes
      → Agrees (acted (execute i number p c).acts) a c.files
      → EffectSame later (execute i number p (with_files a c)) (execute i number p c)
  executes_same (instr.Let to value) p a c here all agrees =
      own_same p _ a c (keeps_variable (SameAt a c.files) to (operand_value p value) p) here all agrees
  executes_same (instr.Calc to op left right) p a c here all agrees =
      let v : Value = operand_value p left in
      let w : Value = operand_value p right in
      own_same p _ a c (keeps_assign (SameAt a c.files) to (calculation op v w) p (calculated_byte op v w)) here all agrees
  executes_same (instr.Glue to left right) p a c here all agrees =
      own_same p _ a c (keeps_glue (SameAt a c.files) to (operand_value p left) (operand_value p right) p) here all agrees
  executes_same (instr.ToInt to value) p a c here all agrees =
      let v : Value = operand_value p value in
      own_same p _ a c (keeps_assign (SameAt a c.files) to (to_number v) p (to_number_byte v)) here all agrees
  executes_same (instr.Cut before after by) p a c here all agrees =
      own_same p _ a c (keeps_cut (SameAt a c.files) before after (operand_value p by) (operand_value p (Variable after)) p) here all agrees
  executes_same (instr.Jump place) p a c here all agrees =
      own_same p _ a c (keeps_place (SameAt a c.files) place p) here all agrees
  executes_same (instr.JumpIf op left right place) p a c here all agrees =
      let goes : Bool = meets op (order (operand_value p left) (operand_value p right)) in
      own_same p _ a c (keeps_jump (SameAt a c.files) goes place p) here all agrees
  executes_same (instr.Print operands) p a c here all agrees =
      own_same p _ a c (keeps_line (SameAt a c.files) (printed_line (operand_values p operands)) p) here all agrees
  executes_same (instr.Exit code) p a c here all agrees =
      own_same p _ a c (keeps_end (SameAt a c.files) (exit_status (operand_value p code)) p (exit_byte (operand_value p code))) here all agrees
  executes_same (instr.OpenPath file mode path place) p a c here all agrees =
      files_same p a c (open_path file mode (path_at path p) place p a) (open_path file mode (path_at path p) place p c.files)
      (open_same step number later file mode (path_at path p) place p a c.files agrees) here all
  executes_same (instr.ReadLine to file place) p a c here all agrees =
      let o : Option OpenFile = open_for allows_read file p in
      files_same p a c (read_next o to file place p a) (read_next o to file place p c.files)
      (read_same step number later o to file place p a c.files (λ f is. open_holds (SameAt a c.files) allows_read file p f here is) agrees) here all
  executes_same (instr.WriteLine file operands) p a c here all agrees =
      files_same p a c (write_line file operands p a) (write_line file operands p c.files)
      (write_same step number later (open_for allows_write file p) (printed_line (operand_values p operands)) p a c.files
      (λ f is. open_holds (SameAt a c.files) allows_write file p f here is) agrees) here all
  executes_same (instr.CopyRest source target) p a c here all agrees =
      files_same p a c (copy_rest source target p a) (copy_rest source target p c.files)
      (copy_same step number later source (open_for allows_read source p) (open_for allows_write target p) p a c.files
      (λ f is. open_holds (SameAt a c.files) allows_read source p f here is)
      (λ f is. open_holds (SameAt a c.files) allows_write target p f here is) agrees) here all
  executes_same (instr.Close file) p a c here all agrees =
      own_same p _ a c (keeps_close (SameAt a c.files) (lookup file p.files) file p) here all agrees
  executes_same (instr.Remove path place) p a c here all agrees =
      files_same p a c (remove_path (path_at path p) place p a) (remove_path (path_at path p) place p c.files)
      (remove_same step number later (path_at path p) place p a c.files agrees) here all
  executes_same (instr.Exists to path) p a c here all agrees =
      files_same p a c (test_path to (path_at path p) p a) (test_path to (path_at path p) p c.files)
      (test_same step number later to (path_at path p) p a c.files agrees) here all
  executes_same (instr.Spawn child path arguments place) p a c here all agrees =
      spawn_same (path_at path p) (spawning_of child arguments place p) p a c here all agrees
  executes_same (instr.Wait to child) p a c here all agrees = wait_same (lookup child p.children) to p a c here all agrees
  executes_same (instr.Sql cursor text params) p a c here all agrees =
      own_same p _ a c (keeps_end (SameAt a c.files) 240 p (omega arith)) here all agrees
  executes_same (instr.Fetch cursor to place) p a c here all agrees =
      own_same p _ a c (keeps_fetch (SameAt a c.files) (lookup cursor p.cursors) cursor to place p) here all agrees
  executes_same (instr.Count to cursor) p a c here all agrees =
      let o = lookup cursor p.cursors in
      own_same p _ a c (keeps_assign (SameAt a c.files) to (row_count o) p (counted_byte o)) here all agrees
  executes_same (instr.Status to cursor) p a c here all agrees =
      let o = lookup cursor p.cursors in
      own_same p _ a c (keeps_assign (SameAt a c.files) to (status_value o) p (status_value_byte o)) here all agrees

  next_same : (i : Option Instr) (p : Process) (a : FileState) (c : Core) → OpenSame a c.files p → AllOpen a c.files c.processes
      → Agrees (acted (execute_next i number p c).acts) a c.files
      → EffectSame later (execute_next i number p (with_files a c)) (execute_next i number p c)
  next_same None p a c here all agrees = own_same p _ a c (keeps_end (SameAt a c.files) 0 p (omega arith)) here all agrees
  next_same (Some i) p a c here all agrees = executes_same i p a c here all agrees

  quiet_by : (o : Option Process) (a : FileState) (c : Core) → slice_get c.processes number ≡ o → AllOpen a c.files c.processes
      → Agrees (acted (local_step_of o number c).acts) a c.files
      → EffectSame later (local_step_of o number (with_files a c)) (local_step_of o number c)
  quiet_by None a c is all agrees = record { files = a; core = refl; acts = refl; agrees = agrees; opened = all }
  quiet_by (Some p) a c is all agrees =
      next_same (slice_get p.script p.place) p a c (found_open a c.files c.processes number p all is) all agrees

  pub quiet_same : (a : FileState) (c : Core) → AllOpen a c.files c.processes
      → Agrees (acted (local_step number c).acts) a c.files
      → EffectSame later (local_step number (with_files a c)) (local_step number c)
  quiet_same a c all agrees = quiet_by (slice_get c.processes number) a c refl all agrees

-- ---- the end of a process changes no file

status_later : (step number : ℕ) (o : Option ℕ) (later : List Event) (a b : FileState)
    → Agrees (map (event_at step number) (status_acts o) ++ later) a b → Agrees later a b
status_later step number None later a b agrees = agrees
status_later step number (Some status) later a b agrees = later_agrees (event_at step number (Ended status)) later a b refl agrees

end_later : (step number : ℕ) (o : Option Process) (later : List Event) (a b : FileState)
    → Agrees (map (event_at step number) (end_acts o) ++ later) a b → Agrees later a b
end_later step number None later a b agrees = agrees
end_later step number (Some p) later a b agrees = status_later step number p.status later a b agrees

pub ends_later : (step number : ℕ) (c : Core) (later : List Event) (a b : FileState)
    → Agrees (map (event_at step number) (ends_at number c) ++ later) a b → Agrees later a b
ends_later step number c later a b agrees = end_later step number (slice_get c.processes number) later a b agrees
