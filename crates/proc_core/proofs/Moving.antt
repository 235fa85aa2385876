-- The processes after a step: one of them is changed, or one more is made.
use Rattle.std.proofs.Common.{◌≡◌, ℕ, List, refl, sym, subst, inl, inr}
use Rattle.std.specs.Prelude.{Option, Some, None, slice_get, slice_set, not}
use Rattle.ldv_value.specs.FileState.{content_at}
use Rattle.ldv_value.specs.Order.{order, meets}
use Rattle.script_parse.specs.declared.script.Instr.TheVariants as instr
use Rattle.proc_core.specs.Types.{Instr, Reply, Variable}
use Rattle.run_model.specs.Core.{lookup, Process, Core}
use Rattle.run_model.specs.Database.{Answer, Gives, Diverges, Base}
use Rattle.run_model.specs.Schedule.{is_waiting}
use Rattle.run_model.specs.RunLaw.{MayRun}
use Rattle.run_model.specs.State.{State}
use Rattle.run_model.specs.Step.{Ask, execute, execute_next, local_step_of, took_of, next_ask, told, asking, step}
use Rattle.run_model.specs.StepBase.{operand_value, operand_values}
use Rattle.run_model.specs.StepFiles.{path_at, open_for, allows_read, allows_write, open_path, read_next, write_line, copy_rest, remove_path, test_path}
use Rattle.run_model.specs.StepProcesses.{SpawnRequest, spawn_script, script_within, spawn_file, spawn_path, spawning_of, status_in, wait_until, wait_for}
use Rattle.run_model.specs.StepReplies.{row_count, status_value}
use Rattle.run_model.specs.StepVariables.{calculation, to_number, printed_line}
use Rattle.run_model.proofs.StepKeeps.{Keeps, keeps_assign, keeps_glue, keeps_cut, keeps_jump, keeps_line, keeps_fetch, keeps_close, keeps_open, keeps_read, keeps_write, keeps_copy, keeps_remove, keeps_test, calculated_byte, to_number_byte, counted_byte, status_value_byte}
use Rattle.run_model.proofs.StepActs.{none_is}
use Rattle.run_model.proofs.NeverStuck.{Any}
use Rattle.proc_core.proofs.Machines.{set_itself}
use Rattle.proc_core.proofs.Readiness.{Moved}

module _ (number : ℕ) (p : Process) (c : Core) where
  abbrev pub MovedTo : Core → Type 0
  MovedTo d = Moved c.processes number p d.processes

  by_keeps : (q : Process) → Keeps Any p q → Moved c.processes number p (slice_set c.processes number q)
  by_keeps q keeps = inl (q, refl, keeps.children)

  script_moved : (o : Option (List Instr)) (request : SpawnRequest) (path : List ℕ) → MovedTo (spawn_script o request path number p c).core
  script_moved None request path = inl (_, refl, refl)
  script_moved (Some script) request path = inr (request.child, script, request.arguments, refl)

  file_moved : (o : Option (List ℕ)) (request : SpawnRequest) (path : List ℕ) → MovedTo (spawn_file o request path number p c).core
  file_moved None request path = inl (_, refl, refl)
  file_moved (Some bytes) request path = script_moved (script_within c bytes) request path

  path_moved : (o : Option (List ℕ)) (request : SpawnRequest) → MovedTo (spawn_path o request number p c).core
  path_moved None request = inl (_, refl, refl)
  path_moved (Some path) request = file_moved (content_at c.files path) request path

  until_moved : slice_get c.processes number ≡ Some p → (status : Option ℕ) (child : ℕ) (to : List ℕ) → MovedTo (wait_until status child to number p c).core
  until_moved at None child to = inl (p, sym (set_itself c.processes number p at), refl)
  until_moved at (Some status) child to = inl (_, refl, refl)

  wait_moved : slice_get c.processes number ≡ Some p → (o : Option ℕ) (to : List ℕ) → MovedTo (wait_for o to number p c).core
  wait_moved at None to = inl (_, refl, refl)
  wait_moved at (Some child) to = until_moved at (status_in c.processes child) child to

  executes_moved : (i : Instr) → slice_get c.processes number ≡ Some p → MovedTo (execute i number p c).core
  executes_moved (instr.Let to value) at = inl (_, refl, refl)
  executes_moved (instr.Calc to op left right) at =
      let v = operand_value p left in
      let w = operand_value p right in
      by_keeps _ (keeps_assign Any to (calculation op v w) p (calculated_byte op v w))
  executes_moved (instr.Glue to left right) at = by_keeps _ (keeps_glue Any to (operand_value p left) (operand_value p right) p)
  executes_moved (instr.ToInt to value) at =
      let v = operand_value p value in
      by_keeps _ (keeps_assign Any to (to_number v) p (to_number_byte v))
  executes_moved (instr.Cut before after by) at =
      by_keeps _ (keeps_cut Any before after (operand_value p by) (operand_value p (Variable after)) p)
  executes_moved (instr.Jump place) at = inl (_, refl, refl)
  executes_moved (instr.JumpIf op left right place) at =
      let goes = meets op (order (operand_value p left) (operand_value p right)) in
      by_keeps _ (keeps_jump Any goes place p)
  executes_moved (instr.Print operands) at = by_keeps _ (keeps_line Any (printed_line (operand_values p operands)) p)
  executes_moved (instr.Exit code) at = inl (_, refl, refl)
  executes_moved (instr.OpenPath file mode path place) at =
      by_keeps (open_path file mode (path_at path p) place p c.files).process (keeps_open Any file mode (path_at path p) place p c.files (λ q here. tt))
  executes_moved (instr.ReadLine to file place) at =
      by_keeps (read_next (open_for allows_read file p) to file place p c.files).process
      (keeps_read Any (open_for allows_read file p) to file place p c.files (λ f all here. tt))
  executes_moved (instr.WriteLine file operands) at =
      by_keeps (write_line file operands p c.files).process
      (keeps_write Any (open_for allows_write file p) (printed_line (operand_values p operands)) p c.files)
  executes_moved (instr.CopyRest source target) at =
      by_keeps (copy_rest source target p c.files).process
      (keeps_copy Any source (open_for allows_read source p) (open_for allows_write target p) p c.files (λ f all here. tt))
  executes_moved (instr.Close file) at = by_keeps _ (keeps_close Any (lookup file p.files) file p)
  executes_moved (instr.Remove path place) at =
      by_keeps (remove_path (path_at path p) place p c.files).process (keeps_remove Any (path_at path p) place p c.files)
  executes_moved (instr.Exists to path) at =
      by_keeps (test_path to (path_at path p) p c.files).process (keeps_test Any to (path_at path p) p c.files)
  executes_moved (instr.Spawn child path arguments place) at = path_moved (path_at path p) (spawning_of child arguments place p)
  executes_moved (instr.Wait to child) at = wait_moved at (lookup child p.children) to
  executes_moved (instr.Sql cursor text params) at = inl (_, refl, refl)
  executes_moved (instr.Fetch cursor to place) at = by_keeps _ (keeps_fetch Any (lookup cursor p.cursors) cursor to place p)
  executes_moved (instr.Count to cursor) at =
      let o = lookup cursor p.cursors in
      by_keeps _ (keeps_assign Any to (row_count o) p (counted_byte o))
  executes_moved (instr.Status to cursor) at =
      let o = lookup cursor p.cursors in
      by_keeps _ (keeps_assign Any to (status_value o) p (status_value_byte o))

  next_moved : (i : Option Instr) → slice_get c.processes number ≡ Some p → MovedTo (execute_next i number p c).core
  next_moved None at = inl (_, refl, refl)
  next_moved (Some i) at = executes_moved i at

  quiet_moved : (o : Option Process) → slice_get c.processes number ≡ Some p → o ≡ Some p → MovedTo (local_step_of o number c).core
  quiet_moved o at is = subst (λ (q : Option Process). MovedTo (local_step_of q number c).core) (sym is) (next_moved (slice_get p.script p.place) at)

  took_moved : (o : Option Process) (a : Ask) (reply : Reply) → o ≡ Some p → MovedTo (took_of o number a reply c)
  took_moved o a reply is = subst (λ (q : Option Process). MovedTo (took_of q number a reply c)) (sym is) (inl (_, refl, refl))

module _ {Db : Type 0} (base : Base Db) (number : ℕ) (p : Process) (s : State Db) (at : slice_get s.core.processes number ≡ Some p) where
  told_moved : (a : Ask) (x : Answer Db) → MovedTo number p s.core (told number a s x).state.core
  told_moved a (Gives reply db lists) = took_moved number p s.core (slice_get s.core.processes number) a reply at
  told_moved a Diverges = inl (p, sym (set_itself s.core.processes number p at), refl)

  asking_moved : (o : Option Ask) → MovedTo number p s.core (asking base number s o).state.core
  asking_moved None = quiet_moved number p s.core (slice_get s.core.processes number) at at
  asking_moved (Some a) = told_moved a (base s.db a.question)

  pub step_moved : MovedTo number p s.core (step base number s).state.core
  step_moved = asking_moved (next_ask number s.core)

pub may_run_going : (number : ℕ) (c : Core) → (may : MayRun number c) → may.0.status ≡ None
may_run_going number c may =
    none_is may.0.status (not (is_waiting (slice_get may.0.script may.0.place) may.0 c.processes)) may.2
