-- A step has at most two acts: the two of a copy, which never ends its process, or one act of its own and the
-- end of its process. So a run of n steps has at most 2 * n + 1 events.
use Rattle.std.proofs.Common.{◌≡◌, ℕ, zero, suc, ◌+◌, ◌*◌, ◌≤◌, List, [], ◌∷◌, ◌++◌, length, refl, sym, ap, ◌∙◌, subst, Bool, true, false, arith, inl, inr, ◌⊎◌}
use Rattle.std.specs.Prelude.{Option, Some, None, slice_get, slice_set, is_none, is_some, not, ◌&&◌, ◌||◌, map}
use Rattle.std.proofs.lemmas.Bool.{cases_Bool, and_parts, or_parts}
use Rattle.std.proofs.lemmas.List.{length-append, length-map}
use Rattle.ldv_value.proofs.Cases.{cases-option}
use Rattle.ldv_value.specs.FileState.{FileState, is_there, FileRefusal, open_refusal, has_room, rest_at, content_at}
use Rattle.script_parse.specs.declared.script.Instr.TheVariants as instr
use Rattle.run_model.specs.Types.{Instr, Act, Event, OpenMode, World}
use Rattle.run_model.specs.Core.{lookup, OpenFile, Process, Core, have_all_ended, is_over}
use Rattle.run_model.specs.Database.{Answer, Gives, Diverges, Base}
use Rattle.run_model.specs.Events.{event_at, events_of_step, events, start_events}
use Rattle.run_model.specs.Run.{first_pick, later_picks, chosen, move_of, move, steps}
use Rattle.run_model.specs.RunLaw.{MayRun, start_state_of, FewEventsLaw, WorldEventsLaw}
use Rattle.run_model.specs.Schedule.{choose, is_waiting}
use Rattle.run_model.specs.SqlDatabase.{sql_base}
use Rattle.run_model.specs.Start.{start_script, start_state}
use Rattle.run_model.specs.State.{State, StepResult}
use Rattle.run_model.specs.Step.{Ask, Effect, execute, execute_next, local_step_of, local_step, took, asked_act, end_acts, status_acts, ends_at, next_ask, told, asking}
use Rattle.run_model.specs.StepBase.{FileEffect, on_files}
use Rattle.run_model.specs.StepFiles.{path_at, open_for, allows_read, allows_write, open_unless, open_path, read_next, write_where, write_text, write_line, copy_where, copy_between, copy_rest, remove_found, remove_path, test_path}
use Rattle.run_model.specs.StepProcesses.{SpawnRequest, spawn_script, script_within, spawn_file, spawn_path, spawning_of, status_in, wait_until, wait_for}
use Rattle.run_model.specs.StepVariables.{printed_line}
use Rattle.run_model.specs.StepBase.{operand_values}
use Rattle.run_model.specs.WorldRun.{steps_in, steps_by, events_in, events_by}
use Rattle.run_model.proofs.Equations.{events-zero, events-over, events-suc, steps-zero, steps-over, steps-suc}
use Rattle.run_model.proofs.NeverStuck.{Ordered, move_ordered, chosen_runs}

-- ---- the end of a process is one act

status_one : (o : Option ℕ) → length (status_acts o) ≤ 1
status_one None = omega arith
status_one (Some status) = omega arith

end_one : (o : Option Process) → length (end_acts o) ≤ 1
end_one None = omega arith
end_one (Some p) = status_one p.status

-- ---- a step of one act at most, beside the end

abbrev IsFew : List Act → Type 0
IsFew acts = length acts ≤ 1

unless_few : (o : Option FileRefusal) (found : Bool) (name : List ℕ) (mode : OpenMode) (path : List ℕ) (place : ℕ) (p : Process) (s : FileState)
    → IsFew (open_unless o found name mode path place p s).acts
unless_few None found name mode path place p s = omega arith
unless_few (Some refusal) found name mode path place p s = omega arith

open_few : (name : List ℕ) (mode : OpenMode) (o : Option (List ℕ)) (place : ℕ) (p : Process) (s : FileState) → IsFew (open_path name mode o place p s).acts
open_few name mode None place p s = omega arith
open_few name mode (Some path) place p s = unless_few (open_refusal mode (is_there s path)) (is_there s path) name mode path place p s

read_few : (o : Option OpenFile) (to name : List ℕ) (place : ℕ) (p : Process) (s : FileState) → IsFew (read_next o to name place p s).acts
read_few None to name place p s = omega arith
read_few (Some file) to name place p s = omega arith

where_few : (fits : Bool) (file : OpenFile) (text : List ℕ) (p : Process) (s : FileState) → IsFew (write_where fits file text p s).acts
where_few false file text p s = omega arith
where_few true file text p s = omega arith

write_few : (o : Option OpenFile) (text : List ℕ) (p : Process) (s : FileState) → IsFew (write_text o text p s).acts
write_few None text p s = omega arith
write_few (Some file) text p s = where_few (has_room s file.path (length text)) file text p s

found_few : (found : Bool) (path : List ℕ) (place : ℕ) (p : Process) (s : FileState) → IsFew (remove_found found path place p s).acts
found_few false path place p s = omega arith
found_few true path place p s = omega arith

remove_few : (o : Option (List ℕ)) (place : ℕ) (p : Process) (s : FileState) → IsFew (remove_path o place p s).acts
remove_few None place p s = omega arith
remove_few (Some path) place p s = found_few (is_there s path) path place p s

test_few : (to : List ℕ) (o : Option (List ℕ)) (p : Process) (s : FileState) → IsFew (test_path to o p s).acts
test_few to None p s = omega arith
test_few to (Some path) p s = omega arith

script_few : (o : Option (List Instr)) (spawning : SpawnRequest) (path : List ℕ) (number : ℕ) (p : Process) (c : Core) → IsFew (spawn_script o spawning path number p c).acts
script_few None spawning path number p c = omega arith
script_few (Some script) spawning path number p c = omega arith

file_few : (o : Option (List ℕ)) (spawning : SpawnRequest) (path : List ℕ) (number : ℕ) (p : Process) (c : Core) → IsFew (spawn_file o spawning path number p c).acts
file_few None spawning path number p c = omega arith
file_few (Some bytes) spawning path number p c = script_few (script_within c bytes) spawning path number p c

spawn_few : (o : Option (List ℕ)) (spawning : SpawnRequest) (number : ℕ) (p : Process) (c : Core) → IsFew (spawn_path o spawning number p c).acts
spawn_few None spawning number p c = omega arith
spawn_few (Some path) spawning number p c = file_few (content_at c.files path) spawning path number p c

until_few : (o : Option ℕ) (child : ℕ) (to : List ℕ) (number : ℕ) (p : Process) (c : Core) → IsFew (wait_until o child to number p c).acts
until_few None child to number p c = omega arith
until_few (Some status) child to number p c = omega arith

wait_few : (o : Option ℕ) (to : List ℕ) (number : ℕ) (p : Process) (c : Core) → IsFew (wait_for o to number p c).acts
wait_few None to number p c = omega arith
wait_few (Some child) to number p c = until_few (status_in c.processes child) child to number p c

-- ---- all acts of a step, the end too

abbrev all_acts : ℕ → Effect → ℕ
all_acts number e = length (e.acts ++ ends_at number e.core)

few_acts : (number : ℕ) (e : Effect) → IsFew e.acts → all_acts number e ≤ 2
few_acts number e few = omega (arith, length-append e.acts (ends_at number e.core), end_one (slice_get e.core.processes number), few)

-- a process that is put in its place is found there
put_found : (ps : List Process) (k : ℕ) (q : Process) → (slice_get (slice_set ps k q) k ≡ Some q) ⊎ (slice_get (slice_set ps k q) k ≡ None)
put_found [] zero q = inr refl
put_found [] (suc k) q = inr refl
put_found (p ∷ ps) zero q = inl refl
put_found (p ∷ ps) (suc k) q = put_found ps k q

none_end : (ps : List Process) (k : ℕ) (q : Process) → q.status ≡ None → length (end_acts (slice_get (slice_set ps k q) k)) ≡ 0
none_end ps k q none = elim (put_found ps k q) [
  | inl here ↦ ap (λ (o : Option Process). length (end_acts o)) here ∙ ap (λ (o : Option ℕ). length (status_acts o)) none
  | inr past ↦ ap (λ (o : Option Process). length (end_acts o)) past
]

copy_where_few : (fits : Bool) (name : List ℕ) (source target : OpenFile) (number : ℕ) (p : Process) (c : Core) → p.status ≡ None
    → all_acts number (on_files number (copy_where fits name source target p c.files) c) ≤ 2
copy_where_few false name source target number p c none =
    few_acts number (on_files number (copy_where false name source target p c.files) c) (omega arith)
copy_where_few true name source target number p c none =
    let e : FileEffect = copy_where true name source target p c.files in
    omega (arith, length-append e.acts (end_acts (slice_get (slice_set c.processes number e.process) number)), none_end c.processes number e.process none)

copy_few : (name : List ℕ) (o r : Option OpenFile) (number : ℕ) (p : Process) (c : Core) → p.status ≡ None
    → all_acts number (on_files number (copy_between name o r p c.files) c) ≤ 2
copy_few name None r number p c none = few_acts number (on_files number (copy_between name None r p c.files) c) (omega arith)
copy_few name (Some source) None number p c none = few_acts number (on_files number (copy_between name (Some source) None p c.files) c) (omega arith)
copy_few name (Some source) (Some target) number p c none =
    copy_where_few (has_room c.files target.path (length (rest_at c.files source.path source.place))) name source target number p c none

executes_few : (i : Instr) (number : ℕ) (p : Process) (c : Core) → p.status ≡ None → all_acts number (execute i number p c) ≤ 2
executes_few (instr.Let to value) number p c none = few_acts number (execute (instr.Let to value) number p c) (omega arith)
executes_few (instr.Calc to op left right) number p c none = few_acts number (execute (instr.Calc to op left right) number p c) (omega arith)
executes_few (instr.Glue to left right) number p c none = few_acts number (execute (instr.Glue to left right) number p c) (omega arith)
executes_few (instr.ToInt to value) number p c none = few_acts number (execute (instr.ToInt to value) number p c) (omega arith)
executes_few (instr.Cut before after by) number p c none = few_acts number (execute (instr.Cut before after by) number p c) (omega arith)
executes_few (instr.Jump place) number p c none = few_acts number (execute (instr.Jump place) number p c) (omega arith)
executes_few (instr.JumpIf op left right place) number p c none = few_acts number (execute (instr.JumpIf op left right place) number p c) (omega arith)
executes_few (instr.Print operands) number p c none = few_acts number (execute (instr.Print operands) number p c) (omega arith)
executes_few (instr.Exit code) number p c none = few_acts number (execute (instr.Exit code) number p c) (omega arith)
executes_few (instr.OpenPath file mode path place) number p c none =
    few_acts number (execute (instr.OpenPath file mode path place) number p c) (open_few file mode (path_at path p) place p c.files)
executes_few (instr.ReadLine to file place) number p c none =
    few_acts number (execute (instr.ReadLine to file place) number p c) (read_few (open_for allows_read file p) to file place p c.files)
executes_few (instr.WriteLine file operands) number p c none =
    few_acts number (execute (instr.WriteLine file operands) number p c) (write_few (open_for allows_write file p) (printed_line (operand_values p operands)) p c.files)
executes_few (instr.CopyRest source target) number p c none =
    copy_few source (open_for allows_read source p) (open_for allows_write target p) number p c none
executes_few (instr.Close file) number p c none = few_acts number (execute (instr.Close file) number p c) (omega arith)
executes_few (instr.Remove path place) number p c none =
    few_acts number (execute (instr.Remove path place) number p c) (remove_few (path_at path p) place p c.files)
executes_few (instr.Exists to path) number p c none =
    few_acts number (execute (instr.Exists to path) number p c) (test_few to (path_at path p) p c.files)
executes_few (instr.Spawn child path arguments place) number p c none =
    few_acts number (execute (instr.Spawn child path arguments place) number p c) (spawn_few (path_at path p) (spawning_of child arguments place p) number p c)
executes_few (instr.Wait to child) number p c none =
    few_acts number (execute (instr.Wait to child) number p c) (wait_few (lookup child p.children) to number p c)
executes_few (instr.Sql cursor text params) number p c none = few_acts number (execute (instr.Sql cursor text params) number p c) (omega arith)
executes_few (instr.Fetch cursor to place) number p c none = few_acts number (execute (instr.Fetch cursor to place) number p c) (omega arith)
executes_few (instr.Count to cursor) number p c none = few_acts number (execute (instr.Count to cursor) number p c) (omega arith)
executes_few (instr.Status to cursor) number p c none = few_acts number (execute (instr.Status to cursor) number p c) (omega arith)

next_few : (o : Option Instr) (number : ℕ) (p : Process) (c : Core) → p.status ≡ None → all_acts number (execute_next o number p c) ≤ 2
next_few None number p c none = few_acts number (execute_next None number p c) (omega arith)
next_few (Some i) number p c none = executes_few i number p c none

quiet_few : (number : ℕ) (p : Process) (c : Core) → slice_get c.processes number ≡ Some p → p.status ≡ None → all_acts number (local_step number c) ≤ 2
quiet_few number p c is none =
    subst (λ (o : Option Process). all_acts number (local_step_of o number c) ≤ 2) (sym is) (next_few (slice_get p.script p.place) number p c none)

-- ---- a move, and a run

pub none_is : (o : Option ℕ) (b : Bool) → (is_none o && b) ≡ true → o ≡ None
none_is None b is = refl
none_is (Some status) b is = absurd cc

module _ {Db : Type 0} (base : Base Db) where
  told_few : (number : ℕ) (a : Ask) (s : State Db) (answer : Answer Db) → length (told number a s answer).acts ≤ 2
  told_few number a s (Gives reply db lists) = omega (arith, end_one (slice_get (took number a reply s.core).processes number))
  told_few number a s Diverges = omega arith

  asking_few : (number : ℕ) (p : Process) (s : State Db) → slice_get s.core.processes number ≡ Some p → p.status ≡ None
      → (o : Option Ask) → length (asking base number s o).acts ≤ 2
  asking_few number p s is none None = quiet_few number p s.core is none
  asking_few number p s is none (Some a) = told_few number a s (base s.db a.question)

  move_few : (pick : Option ℕ) (s : State Db) → Ordered s.core → is_over s.core ≡ false → length (move base pick s).acts ≤ 2
  move_few pick s ordered going =
      let number : ℕ = choose pick s.core in
      let parts = or_parts (is_some s.core.diverged) (have_all_ended s.core) going in
      let may : MayRun number s.core = chosen_runs pick s.core ordered parts.1 in
      asking_few number may.0 (chosen number s) may.1
      (none_is may.0.status (not (is_waiting (slice_get may.0.script may.0.place) may.0 s.core.processes)) may.2)
      (next_ask number (chosen number s).core)

  pub few_events : (n number : ℕ) (picks : List ℕ) (s : State Db) → Ordered s.core
      → length (events base n number picks s) ≤ 2 * steps base n picks s
  few_events zero number picks s ordered = omega (arith, ap length (events-zero base number picks s))
  few_events (suc n) number picks s ordered = elim (cases_Bool (is_over s.core)) [
    | inl over ↦ omega (arith, ap length (events-over base (suc n) number picks s over))
    | inr going ↦
        let pick : Option ℕ = first_pick picks in
        let m : StepResult Db = move base pick s in
        let rest : List Event = events base n (number + 1) (later_picks picks) m.state in
        let all : length (events base (suc n) number picks s) ≡ length (events_of_step number m ++ rest) = ap length (events-suc base n number picks s going) in
        let count : length (events_of_step number m) ≡ length m.acts = length-map m.acts (event_at number m.process) in
        let both : length (events_of_step number m ++ rest) ≡ length (events_of_step number m) + length rest = length-append (events_of_step number m) rest in
        omega (
          arith,
          all,
          count,
          both,
          steps-suc base n picks s going,
          move_few pick s ordered going,
          few_events n (number + 1) (later_picks picks) m.state (move_ordered base (choose pick s.core) s ordered),
        )
  ]

  -- no more steps are made than may be
  pub few_steps : (n : ℕ) (picks : List ℕ) (s : State Db) → steps base n picks s ≤ n
  few_steps zero picks s = omega (arith, steps-zero base picks s)
  few_steps (suc n) picks s = elim (cases_Bool (is_over s.core)) [
    | inl over ↦ omega (arith, steps-over base (suc n) picks s over)
    | inr going ↦ omega (arith, steps-suc base n picks s going, few_steps n (later_picks picks) (move base (first_pick picks) s).state)
  ]

pub few_events_law : (Db : Type 0) → FewEventsLaw Db
few_events_law Db base n picks start seed files script db = few_events base n 1 picks (start_state_of start seed files script db) (tt, tt)

-- ---- the run of a world

start_one : (path : Option (List ℕ)) → length (start_events path) ≤ 1
start_one None = omega arith
start_one (Some path) = omega arith

pub world_events : WorldEventsLaw
world_events n picks w = elim (cases-option (start_script w)) [
  | inl none ↦
      let all : length (events_by n picks w) ≡ 0 = ap (λ (o : Option (List Instr)). length (events_in n picks w o)) none in
      (omega (arith, all), omega (arith, all))
  | inr found ↦
      let s = start_state w found.0 in
      let later : List Event = events sql_base n 1 picks s in
      let all : length (events_by n picks w) ≡ length (start_events (slice_get w.start 0) ++ later) =
      ap (λ (o : Option (List Instr)). length (events_in n picks w o)) found.1 in
      let made : steps_by n picks w ≡ steps sql_base n picks s = ap (steps_in n picks w) found.1 in
      let both = length-append (start_events (slice_get w.start 0)) later in
      let few : length later ≤ 2 * steps sql_base n picks s = few_events sql_base n 1 picks s (tt, tt) in (
        omega (arith, all, made, both, few, start_one (slice_get w.start 0)),
        omega (arith, all, both, few, start_one (slice_get w.start 0), few_steps sql_base n picks s),
      )
]
