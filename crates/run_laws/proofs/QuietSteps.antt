-- A step that asks nothing: no process asked more, each stays, names stay different, and nothing diverges.
use Rattle.std.proofs.Common.{◌≡◌, ℕ, List, [], ◌∷◌, length, refl, ap, ◌∙◌, true, false}
use Rattle.std.specs.Prelude.{Option, Some, None, slice_get, slice_set}
use Rattle.ldv_value.specs.FileState.{content_at}
use Rattle.ldv_value.specs.Order.{order, meets}
use Rattle.script_parse.specs.declared.script.Instr.TheVariants as instr
use Rattle.run_laws.specs.Types.{Variable, Instr, Act, Unspawned, Waited, Entry}
use Rattle.run_model.specs.Core.{lookup, Process, Core}
use Rattle.run_model.specs.Step.{Effect, own, execute, execute_next, local_step_of, local_step}
use Rattle.run_model.specs.StepBase.{operand_value, operand_values, process_effect, FileEffect, on_files}
use Rattle.run_model.specs.StepFiles.{path_at, open_for, allows_read, allows_write, open_path, read_next, write_line, copy_rest, remove_path, test_path}
use Rattle.run_model.specs.StepProcesses.{SpawnRequest, child_of, parent_of, with_child, spawn_script, script_within, spawn_file, spawn_path, spawning_of, status_in, wait_until, wait_for}
use Rattle.run_model.specs.StepReplies.{row_count, status_value}
use Rattle.run_model.specs.StepVariables.{calculation, concatenation, to_number, printed_line}
use Rattle.run_laws.proofs.ProcessNames.{later_trail, Grows, grows_itself, set_grows, names_set, Named, named_later, child_grows, child_named}
use Rattle.run_laws.proofs.ProcessPlaces.{set_related, one_related}
use Rattle.run_laws.proofs.StepTrails.{Trail, trail, trail_assign, trail_cut, trail_jump, trail_line, trail_fetch, trail_close, trail_open, trail_read, trail_write, trail_copy, trail_remove, trail_test}

-- what the process of a creation number asked, if it was made
abbrev pub entries_in : Option Process → List Entry
entries_in None = []
entries_in (Some p) = p.entries

pub record Quiets (c : Core) (e : Effect) : Type 0 where
  pub entries : (k : ℕ) → entries_in (slice_get e.core.processes k) ≡ entries_in (slice_get c.processes k)
  pub grows : Grows c.processes e.core.processes
  pub named : Named c.processes → Named e.core.processes
  pub diverged : e.core.diverged ≡ c.diverged

abbrev SameEntries : Option Process → Option Process → Type 0
SameEntries o r = entries_in r ≡ entries_in o

-- nothing changes
still_quiets : (c : Core) (acts : List Act) → Quiets c (record { core = c; acts = acts })
still_quiets c acts = record {
  entries = λ k. refl;
  grows = grows_itself c.processes;
  named = λ named. named;
  diverged = refl;
}

module _ (number : ℕ) (p : Process) (c : Core) (is : slice_get c.processes number ≡ Some p) where
  set_entries : (q : Process) → q.entries ≡ p.entries
      → (k : ℕ) → entries_in (slice_get (slice_set c.processes number q) k) ≡ entries_in (slice_get c.processes k)
  set_entries q same =
      set_related SameEntries (λ o. refl) c.processes number p q is same

  set_named : (q : Process) → trail q ≡ trail p → Named c.processes → Named (slice_set c.processes number q)
  set_named q same named =
      named_later c.processes (slice_set c.processes number q)
      (set_grows c.processes number p q is (later_trail p q same))
      (names_set c.processes number p q is (ap (λ (t : Trail). t.name) same)) named

  noted_quiets : (q : Process) (acts : List Act) → trail q ≡ trail p → Quiets c (process_effect number q acts c)
  noted_quiets q acts same = record {
    entries = set_entries q (ap (λ (t : Trail). t.entries) same);
    grows = set_grows c.processes number p q is (later_trail p q same);
    named = set_named q same;
    diverged = refl;
  }

  own_quiets : (q : Process) → trail q ≡ trail p → Quiets c (own number q c)
  own_quiets q same = noted_quiets q [] same

  files_quiets : (e : FileEffect) → trail e.process ≡ trail p → Quiets c (on_files number e c)
  files_quiets e same = record {
    entries = set_entries e.process (ap (λ (t : Trail). t.entries) same);
    grows = set_grows c.processes number p e.process is (later_trail p e.process same);
    named = set_named e.process same;
    diverged = refl;
  }

  -- ---- spawn

  child_entries : (spawning : SpawnRequest) (script : List Instr) (k : ℕ)
      → entries_in (slice_get (with_child number spawning script p c.processes) k) ≡ entries_in (slice_get c.processes k)
  child_entries spawning script k =
      let parent : Process = parent_of (length c.processes) spawning.child p in
      one_related SameEntries (λ o. refl) (slice_set c.processes number parent) (child_of p script spawning.arguments) refl k
      ∙ set_entries parent refl k

  script_quiets : (o : Option (List Instr)) (spawning : SpawnRequest) (path : List ℕ)
      → Quiets c (spawn_script o spawning path number p c)
  script_quiets None spawning path = noted_quiets _ (Unspawned path true ∷ []) refl
  script_quiets (Some script) spawning path = record {
    entries = child_entries spawning script;
    grows = child_grows c.processes number p is spawning script;
    named = child_named c.processes number p is spawning script;
    diverged = refl;
  }

  file_quiets : (o : Option (List ℕ)) (spawning : SpawnRequest) (path : List ℕ) → Quiets c (spawn_file o spawning path number p c)
  file_quiets None spawning path = noted_quiets _ (Unspawned path false ∷ []) refl
  file_quiets (Some bytes) spawning path = script_quiets (script_within c bytes) spawning path

  spawn_quiets : (o : Option (List ℕ)) (spawning : SpawnRequest) → Quiets c (spawn_path o spawning number p c)
  spawn_quiets None spawning = own_quiets _ refl
  spawn_quiets (Some path) spawning = file_quiets (content_at c.files path) spawning path

  -- ---- wait

  until_quiets : (o : Option ℕ) (child : ℕ) (to : List ℕ) → Quiets c (wait_until o child to number p c)
  until_quiets None child to = still_quiets c []
  until_quiets (Some status) child to = noted_quiets _ (Waited child ∷ []) refl

  wait_quiets : (o : Option ℕ) (to : List ℕ) → Quiets c (wait_for o to number p c)
  wait_quiets None to = own_quiets _ refl
  wait_quiets (Some child) to = until_quiets (status_in c.processes child) child to

  -- ---- every instruction

  executes_quiets : (i : Instr) → Quiets c (execute i number p c)
  executes_quiets (instr.Let to value) = own_quiets _ refl
  executes_quiets (instr.Calc to op left right) =
      own_quiets _ (trail_assign to (calculation op (operand_value p left) (operand_value p right)) p)
  executes_quiets (instr.Glue to left right) =
      own_quiets _ (trail_assign to (concatenation (operand_value p left) (operand_value p right)) p)
  executes_quiets (instr.ToInt to value) = own_quiets _ (trail_assign to (to_number (operand_value p value)) p)
  executes_quiets (instr.Cut before after by) =
      own_quiets _ (trail_cut before after (operand_value p by) (operand_value p (Variable after)) p)
  executes_quiets (instr.Jump place) = own_quiets _ refl
  executes_quiets (instr.JumpIf op left right place) =
      own_quiets _ (trail_jump (meets op (order (operand_value p left) (operand_value p right))) place p)
  executes_quiets (instr.Print operands) = own_quiets _ (trail_line (printed_line (operand_values p operands)) p)
  executes_quiets (instr.Exit code) = own_quiets _ refl
  executes_quiets (instr.OpenPath file mode path place) =
      files_quiets (open_path file mode (path_at path p) place p c.files) (trail_open file mode (path_at path p) place p c.files)
  executes_quiets (instr.ReadLine to file place) =
      files_quiets (read_next (open_for allows_read file p) to file place p c.files)
      (trail_read (open_for allows_read file p) to file place p c.files)
  executes_quiets (instr.WriteLine file operands) =
      files_quiets (write_line file operands p c.files)
      (trail_write (open_for allows_write file p) (printed_line (operand_values p operands)) p c.files)
  executes_quiets (instr.CopyRest source target) =
      files_quiets (copy_rest source target p c.files)
      (trail_copy source (open_for allows_read source p) (open_for allows_write target p) p c.files)
  executes_quiets (instr.Close file) = own_quiets _ (trail_close (lookup file p.files) file p)
  executes_quiets (instr.Remove path place) =
      files_quiets (remove_path (path_at path p) place p c.files) (trail_remove (path_at path p) place p c.files)
  executes_quiets (instr.Exists to path) =
      files_quiets (test_path to (path_at path p) p c.files) (trail_test to (path_at path p) p c.files)
  executes_quiets (instr.Spawn child path arguments place) =
      spawn_quiets (path_at path p) (spawning_of child arguments place p)
  executes_quiets (instr.Wait to child) = wait_quiets (lookup child p.children) to
  executes_quiets (instr.Sql cursor text params) = own_quiets _ refl
  executes_quiets (instr.Fetch cursor to place) = own_quiets _ (trail_fetch (lookup cursor p.cursors) cursor to place p)
  executes_quiets (instr.Count to cursor) = own_quiets _ (trail_assign to (row_count (lookup cursor p.cursors)) p)
  executes_quiets (instr.Status to cursor) = own_quiets _ (trail_assign to (status_value (lookup cursor p.cursors)) p)

  next_quiets : (i : Option Instr) → Quiets c (execute_next i number p c)
  next_quiets None = own_quiets _ refl
  next_quiets (Some i) = executes_quiets i

quiet_by : (o : Option Process) (number : ℕ) (c : Core) → slice_get c.processes number ≡ o → Quiets c (local_step_of o number c)
quiet_by None number c is = still_quiets c []
quiet_by (Some p) number c is = next_quiets number p c is (slice_get p.script p.place)

pub quiet_quiets : (number : ℕ) (c : Core) → Quiets c (local_step number c)
quiet_quiets number c = quiet_by (slice_get c.processes number) number c refl
