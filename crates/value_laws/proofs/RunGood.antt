-- Facts about every state of a run: the values of each process are good, names are those of processes that
-- were made, and the tables are good. So the statements and the replies of the processes are good.
use Rattle.std.proofs.Common.{◌≡◌, ℕ, zero, suc, ◌+◌, ◌<◌, ◌≤◌, List, [], ◌∷◌, ◌++◌, length, refl, sym, subst, true, arith, inl, inr, length-append}
use Rattle.std.specs.Prelude.{pos, Option, Some, None, slice_get, slice_set, nat_lt, nat_le, ◌&&◌, option_and_then}
use Rattle.std.specs.List.{list_all, AllByRecursion}
use Rattle.std.proofs.lemmas.Bool.{cases_Bool, ltb-true, leb-true, le-leb, lt-ltb}
use Rattle.ldv_value.specs.FileState.{content_at}
use Rattle.ldv_value.specs.Limits.{max_processes, text_limit}
use Rattle.ldv_value.specs.Order.{order, meets}
use Rattle.ldv_value.proofs.Booleans.{and-parts, and-from}
use Rattle.ldv_value.proofs.Lists.{all-weaker, length-map}
use Rattle.ldv_value.proofs.Options.{same-some}
use Rattle.script_parse.specs.declared.script.Instr.TheVariants as instr
use Rattle.script_parse.specs.Script.{script_of}
use Rattle.sql_model.specs.Statements.{reply_of, after}
use Rattle.sql_model.specs.Tables.{is_short, is_database, is_described, tables_test}
use Rattle.sql_model.specs.Texts.{statement_of}
use Rattle.sql_laws.proofs.DatabaseLaws.{tables_law}
use Rattle.ldv_value.proofs.ItemLists.{all_append}
use Rattle.run_model.specs.Types.{Value, Null, Int, Text, Variable, Instr, Reply, Statement, Table}
use Rattle.run_model.specs.declared.package.Entry.{Entry}
use Rattle.run_model.specs.Core.{lookup, Process, Core, is_over}
use Rattle.run_model.specs.Database.{Question}
use Rattle.run_model.specs.Run.{first_pick, later_picks, chosen, move_of, move, run}
use Rattle.run_model.specs.Schedule.{choose}
use Rattle.run_model.specs.SqlDatabase.{SqlDatabase, sql_base}
use Rattle.run_model.specs.State.{State}
use Rattle.run_model.specs.Step.{Ask, ask, entry_of, process_with_reply, Effect, own, execute, execute_next, local_step_of, asked_by, ask_of_instr, ask_of_process, next_ask, took_of, asking}
use Rattle.run_model.specs.StepBase.{operand_value, operand_values, FileEffect, on_files}
use Rattle.run_model.specs.StepFiles.{path_at, open_for, allows_read, allows_write, open_path, read_next, write_line, copy_rest, remove_path, test_path}
use Rattle.run_model.specs.StepProcesses.{SpawnRequest, child_of, parent_of, with_child, spawn_script, script_within, spawn_file, spawn_path, spawning_of, status_in, wait_until, wait_for}
use Rattle.run_model.specs.StepReplies.{row_count, status_value}
use Rattle.run_model.specs.StepVariables.{calculation, concatenation, to_number, printed_line, exit_status}
use Rattle.run_model.specs.TypedPackage.{IsU32}
use Rattle.run_model.specs.ValidPackage.{is_root_process, is_short_text, reply_rule}
use Rattle.package_codec.specs.Room.{reply_room}
use Rattle.run_model.proofs.Equations.{run-zero, run-over, run-suc}
use Rattle.run_model.proofs.StepKeeps.{IsStatus, exit_byte}
use Rattle.value_laws.specs.Answers.{GoodAnswer, AnswersLaw, NoStatementLaw}
use Rattle.value_laws.specs.Literals.{GoodInstr, GoodScript, ScriptLiteralsLaw, StatementLiteralsLaw}
use Rattle.value_laws.specs.Values.{GoodValue, GoodValues, GoodTables, GoodReply, GoodEntry}
use Rattle.run_laws.proofs.ProcessNames.{Later, later_trail, set_grows, names_set, Named, named_later, child_named}
use Rattle.run_laws.proofs.ProcessPlaces.{set_length, found_all, set_all}
use Rattle.value_laws.proofs.StepGood.{GoodParts, operand_good, operands_good, end_good, place_good, on_good, variable_good, assign_good, good_cut, good_jump, good_line, good_fetch, good_close, good_open, good_read, good_write, good_copy, good_remove, good_test, GoodCursor, bound, arguments_good}
use Rattle.run_laws.proofs.StepTrails.{Trail, trail, trail_assign, trail_cut, trail_jump, trail_line, trail_fetch, trail_close, trail_open, trail_read, trail_write, trail_copy, trail_remove, trail_test}
use Rattle.value_laws.proofs.StepValues.{small_good, calculated_good, glued_good, to_number_good, counted_good, status_value_good}
use Rattle.value_laws.proofs.GoodRefusals.{typed_values, short_values}

-- ---- processes

-- where so many processes were made
pub record GoodTrail (made : ℕ) (t : Trail) : Type 0 where
  pub entries : AllByRecursion GoodEntry t.entries
  pub root : is_root_process t.name ≡ true
  pub parts : AllByRecursion IsU32 t.name
  pub depth : length t.name ≤ made
  pub spawned : t.spawned ≤ made

pub record GoodProcess (made : ℕ) (p : Process) : Type 0 where
  pub values : GoodParts p
  pub told : GoodTrail made (trail p)

pub record GoodList (ps : List Process) : Type 0 where
  pub each : AllByRecursion (GoodProcess (length ps)) ps
  pub few : length ps ≤ 65535
  pub named : Named ps

-- one more process
more_trail : (made : ℕ) (t : Trail) → GoodTrail made t → GoodTrail (made + 1) t
more_trail made t good = record {
  entries = good.entries;
  root = good.root;
  parts = good.parts;
  depth = omega (arith, good.depth);
  spawned = omega (arith, good.spawned);
}

more_good : (made : ℕ) (p : Process) → GoodProcess made p → GoodProcess (made + 1) p
more_good made p good = record { values = good.values; told = more_trail made (trail p) good.told }

-- ---- one process in place of another

module _ (ps : List Process) (number : ℕ) (p : Process) (is : slice_get ps number ≡ Some p) (good : GoodList ps) where
  here_good : GoodProcess (length ps) p
  here_good = found_all (GoodProcess (length ps)) ps number p good.each is

  put_good : (q : Process) → GoodProcess (length ps) q → Later p q → GoodList (slice_set ps number q)
  put_good q here later = record {
    each =
        subst (λ (m : ℕ). AllByRecursion (GoodProcess m) (slice_set ps number q)) (sym (set_length ps number q))
        (set_all (GoodProcess (length ps)) ps number q here good.each);
    few = subst (λ (m : ℕ). m ≤ 65535) (sym (set_length ps number q)) good.few;
    named =
        named_later ps (slice_set ps number q) (set_grows ps number p q is later)
        (names_set ps number p q is later.name) good.named;
  }

  -- with the same trail
  kept_good : (q : Process) → GoodParts q → trail q ≡ trail p → GoodList (slice_set ps number q)
  kept_good q values same =
      put_good q (record { values = values; told = subst (GoodTrail (length ps)) (sym same) here_good.told })
      (later_trail p q same)

  -- ---- spawn

  module _ (spawning : SpawnRequest) (script : List Instr) (below : nat_lt (length ps) max_processes ≡ true)
      (arguments : GoodValues spawning.arguments) (few : length spawning.arguments ≤ 255) (instructions : GoodScript script) where
    abbrev parent : Process
    parent = parent_of (length ps) spawning.child p

    abbrev child : Process
    child = child_of p script spawning.arguments

    abbrev front : List Process
    front = slice_set ps number parent

    parent_good : GoodProcess (length ps + 1) parent
    parent_good = record {
      values = record {
        variables = here_good.values.variables;
        cursors = here_good.values.cursors;
        script = here_good.values.script;
        status = here_good.values.status;
      };
      told = record {
        entries = here_good.told.entries;
        root = here_good.told.root;
        parts = here_good.told.parts;
        depth = omega (arith, here_good.told.depth);
        spawned = omega (arith, here_good.told.spawned);
      };
    }

    child_root : (name : List ℕ) (x : ℕ) → is_root_process name ≡ true → is_root_process (name ++ x ∷ []) ≡ true
    child_root [] x root = absurd cc
    child_root (y ∷ name) x root = root

    child_good : GoodProcess (length ps + 1) child
    child_good = record {
      values = record {
        variables = arguments_good spawning.arguments arguments few;
        cursors = tt;
        script = instructions;
        status = tt;
      };
      told = record {
        entries = tt;
        root = child_root p.name p.spawned here_good.told.root;
        parts =
            all_append IsU32 p.name (p.spawned ∷ []) here_good.told.parts
            (omega (arith, here_good.told.spawned, good.few), tt);
        depth = omega (arith, length-append p.name (p.spawned ∷ []), here_good.told.depth);
        spawned = omega arith;
      };
    }

    all_made : length (with_child number spawning script p ps) ≡ length ps + 1
    all_made = omega (arith, length-append front (child ∷ []), set_length ps number parent)

    spawned_good : GoodList (with_child number spawning script p ps)
    spawned_good = record {
      each =
          subst (λ (m : ℕ). AllByRecursion (GoodProcess m) (with_child number spawning script p ps)) (sym all_made)
          (all_append (GoodProcess (length ps + 1)) front (child ∷ [])
          (set_all (GoodProcess (length ps + 1)) ps number parent parent_good
          (all-weaker (GoodProcess (length ps)) (GoodProcess (length ps + 1)) (more_good (length ps)) ps good.each))
          (child_good, tt));
      few = omega (arith, all_made, ltb-true (length ps) max_processes below);
      named = child_named ps number p is spawning script good.named;
    }

-- ---- instructions that ask nothing

instr_at : (script : List Instr) (place : ℕ) (i : Instr) → GoodScript script → slice_get script place ≡ Some i → GoodInstr i
instr_at [] zero i good is = absurd cc
instr_at [] (suc place) i good is = absurd cc
instr_at (j ∷ script) zero i good is = let same : j ≡ i = cc in subst GoodInstr same good.0
instr_at (j ∷ script) (suc place) i good is = instr_at script place i good.1 is

-- a status that is a byte fits
status_good : (status : ℕ) → status < 256 → GoodValue (Int (pos status))
status_good status byte = small_good status (omega (arith, byte))

abbrev IsEnd : Option Process → Type 0
IsEnd None = Unit {0}
IsEnd (Some q) = IsStatus q.status

ended_byte : (o : Option Process) (status : ℕ) → IsEnd o → option_and_then (λ q. q.status) o ≡ Some status → status < 256
ended_byte None status end is = absurd cc
ended_byte (Some q) status end is = subst IsStatus is end

end_of : (made : ℕ) (ps : List Process) (k : ℕ) → AllByRecursion (GoodProcess made) ps → IsEnd (slice_get ps k)
end_of made [] zero all = tt
end_of made [] (suc k) all = tt
end_of made (p ∷ ps) zero all = all.0.values.status
end_of made (p ∷ ps) (suc k) all = end_of made ps k all.1

module _ (literals : ScriptLiteralsLaw) where
  module _ (number : ℕ) (p : Process) (c : Core) (is : slice_get c.processes number ≡ Some p) (good : GoodList c.processes) where
    abbrev Goes : Effect → Type 0
    Goes e = GoodList e.core.processes

    values : GoodParts p
    values = (here_good c.processes number p is good).values

    own_goes : (q : Process) → GoodParts q → trail q ≡ trail p → Goes (own number q c)
    own_goes q here same = kept_good c.processes number p is good q here same

    files_goes : (e : FileEffect) → GoodParts e.process → trail e.process ≡ trail p → Goes (on_files number e c)
    files_goes e here same = kept_good c.processes number p is good e.process here same

    place_goes : (place : ℕ) → Goes (own number (record p { place = place }) c)
    place_goes place = own_goes (record p { place = place }) (place_good place p values) refl

    script_goes : (o : Option (List Instr)) (bytes : List ℕ) (spawning : SpawnRequest) (path : List ℕ)
        → script_within c bytes ≡ o → GoodValues spawning.arguments → length spawning.arguments ≤ 255
        → Goes (spawn_script o spawning path number p c)
    script_goes None bytes spawning path reads arguments few = place_goes spawning.place
    script_goes (Some script) bytes spawning path reads arguments few = elim (cases_Bool (nat_lt (length c.processes) max_processes)) [
      | inl below ↦
          let found : script_of bytes ≡ Some script = rw below at reads in
          spawned_good c.processes number p is good spawning script below arguments few (literals bytes script found)
      | inr full ↦ let never : None ≡ Some script = rw full at reads in absurd cc
    ]

    file_goes : (o : Option (List ℕ)) (spawning : SpawnRequest) (path : List ℕ) → GoodValues spawning.arguments
        → length spawning.arguments ≤ 255 → Goes (spawn_file o spawning path number p c)
    file_goes None spawning path arguments few = place_goes spawning.place
    file_goes (Some bytes) spawning path arguments few =
        script_goes (script_within c bytes) bytes spawning path refl arguments few

    spawn_goes : (o : Option (List ℕ)) (spawning : SpawnRequest) → GoodValues spawning.arguments
        → length spawning.arguments ≤ 255 → Goes (spawn_path o spawning number p c)
    spawn_goes None spawning arguments few = own_goes _ (end_good 243 p (omega arith) values) refl
    spawn_goes (Some path) spawning arguments few = file_goes (content_at c.files path) spawning path arguments few

    until_goes : (o : Option ℕ) (k : ℕ) (to : List ℕ) → status_in c.processes k ≡ o
        → Goes (wait_until o k to number p c)
    until_goes None k to found = good
    until_goes (Some status) k to found =
        let byte : status < 256 =
        ended_byte (slice_get c.processes k) status (end_of (length c.processes) c.processes k good.each) found in
        own_goes _ (on_good _ (variable_good to (Int (pos status)) p (status_good status byte) values)) refl

    wait_goes : (o : Option ℕ) (to : List ℕ) → Goes (wait_for o to number p c)
    wait_goes None to = own_goes _ (end_good 240 p (omega arith) values) refl
    wait_goes (Some k) to = until_goes (status_in c.processes k) k to refl

    executes_goes : (i : Instr) → GoodInstr i → Goes (execute i number p c)
    executes_goes (instr.Let to value) here =
        own_goes _ (on_good _ (variable_good to (operand_value p value) p (operand_good p value values here) values)) refl
    executes_goes (instr.Calc to op left right) here =
        let v = operand_value p left in
        let w = operand_value p right in
        own_goes _ (assign_good to (calculation op v w) p (calculated_good op v w) values) (trail_assign to (calculation op v w) p)
    executes_goes (instr.Glue to left right) here =
        let v = operand_value p left in
        let w = operand_value p right in
        own_goes _
        (assign_good to (concatenation v w) p (glued_good v w (operand_good p left values here.0) (operand_good p right values here.1)) values)
        (trail_assign to (concatenation v w) p)
    executes_goes (instr.ToInt to value) here =
        let v = operand_value p value in
        own_goes _ (assign_good to (to_number v) p (to_number_good v (operand_good p value values here)) values)
        (trail_assign to (to_number v) p)
    executes_goes (instr.Cut before after by) here =
        let v = operand_value p by in
        let w = operand_value p (Variable after) in
        own_goes _
        (good_cut before after v w p (operand_good p by values here) (operand_good p (Variable after) values tt) values)
        (trail_cut before after v w p)
    executes_goes (instr.Jump place) here = place_goes place
    executes_goes (instr.JumpIf op left right place) here =
        let goes = meets op (order (operand_value p left) (operand_value p right)) in
        own_goes _ (good_jump goes place p values) (trail_jump goes place p)
    executes_goes (instr.Print operands) here =
        let text = printed_line (operand_values p operands) in
        own_goes _ (good_line text p values) (trail_line text p)
    executes_goes (instr.Exit code) here =
        own_goes _ (end_good (exit_status (operand_value p code)) p (exit_byte (operand_value p code)) values) refl
    executes_goes (instr.OpenPath file mode path place) here =
        files_goes (open_path file mode (path_at path p) place p c.files)
        (good_open file mode (path_at path p) place p c.files values)
        (trail_open file mode (path_at path p) place p c.files)
    executes_goes (instr.ReadLine to file place) here =
        files_goes (read_next (open_for allows_read file p) to file place p c.files)
        (good_read (open_for allows_read file p) to file place p c.files values)
        (trail_read (open_for allows_read file p) to file place p c.files)
    executes_goes (instr.WriteLine file operands) here =
        let text = printed_line (operand_values p operands) in
        files_goes (write_line file operands p c.files)
        (good_write (open_for allows_write file p) text p c.files values)
        (trail_write (open_for allows_write file p) text p c.files)
    executes_goes (instr.CopyRest source target) here =
        let from = open_for allows_read source p in
        let into = open_for allows_write target p in
        files_goes (copy_rest source target p c.files) (good_copy source from into p c.files values)
        (trail_copy source from into p c.files)
    executes_goes (instr.Close file) here =
        own_goes _ (good_close (lookup file p.files) file p values) (trail_close (lookup file p.files) file p)
    executes_goes (instr.Remove path place) here =
        files_goes (remove_path (path_at path p) place p c.files) (good_remove (path_at path p) place p c.files values)
        (trail_remove (path_at path p) place p c.files)
    executes_goes (instr.Exists to path) here =
        files_goes (test_path to (path_at path p) p c.files) (good_test to (path_at path p) p c.files values)
        (trail_test to (path_at path p) p c.files)
    executes_goes (instr.Spawn name path arguments place) here =
        let count : length (operand_values p arguments) ≤ 255 =
        omega (arith, length-map arguments (operand_value p), here.2) in
        spawn_goes (path_at path p) (spawning_of name arguments place p) (operands_good p arguments values here.1) count
    executes_goes (instr.Wait to name) here = wait_goes (lookup name p.children) to
    executes_goes (instr.Sql cursor text params) here = own_goes _ (end_good 240 p (omega arith) values) refl
    executes_goes (instr.Fetch cursor to place) here =
        own_goes _ (good_fetch cursor to place p values) (trail_fetch (lookup cursor p.cursors) cursor to place p)
    executes_goes (instr.Count to cursor) here =
        let o = lookup cursor p.cursors in
        own_goes _ (assign_good to (row_count o) p (counted_good o) values) (trail_assign to (row_count o) p)
    executes_goes (instr.Status to cursor) here =
        let o = lookup cursor p.cursors in
        own_goes _ (assign_good to (status_value o) p (status_value_good o) values) (trail_assign to (status_value o) p)

    next_goes : (o : Option Instr) → ((i : Instr) → o ≡ Some i → GoodInstr i) → Goes (execute_next o number p c)
    next_goes None here = own_goes _ (end_good 0 p (omega arith) values) refl
    next_goes (Some i) here = executes_goes i (here i refl)

  quiet_goes : (o : Option Process) (number : ℕ) (c : Core) → slice_get c.processes number ≡ o → GoodList c.processes
      → GoodList (local_step_of o number c).core.processes
  quiet_goes None number c is good = good
  quiet_goes (Some p) number c is good =
      next_goes number p c is good (slice_get p.script p.place)
      (λ i there. instr_at p.script p.place i (values number p c is good).script there)

-- ---- instructions that ask

pub record GoodQuestion (q : Question) : Type 0 where
  pub text : GoodValue (Text q.text)
  pub params : GoodValues q.params
  pub few : length q.params ≤ 255

abbrev asks_text : List ℕ → List ℕ → List Value → Process → Ask
asks_text cursor text params p =
    record { cursor = cursor; question = record { process = p.name; text = text; params = params } }

ask_good : (cursor : List ℕ) (v : Value) (params : List Value) (p : Process) (a : Ask) → GoodValue v → GoodValues params
    → length params ≤ 255 → ask cursor v params p ≡ Some a → GoodQuestion a.question
ask_good cursor Null params p a text here few is = absurd cc
ask_good cursor (Int n) params p a text here few is = absurd cc
ask_good cursor (Text t) params p a text here few is =
    let same : asks_text cursor t params p ≡ a = same-some (asks_text cursor t params p) a is in
    subst (λ (x : Ask). GoodQuestion x.question) same (record { text = text; params = here; few = few })

instr_asks : (i : Instr) (p : Process) (a : Ask) → GoodInstr i → GoodParts p → asked_by i p ≡ Some a → GoodQuestion a.question
instr_asks (instr.Sql cursor text params) p a here good is =
    ask_good cursor (operand_value p text) (operand_values p params) p a (operand_good p text good here.0)
    (operands_good p params good here.1) (omega (arith, length-map params (operand_value p), here.2)) is
instr_asks other p a here good is = absurd cc

next_asks : (o : Option Instr) (p : Process) (a : Ask) → ((i : Instr) → o ≡ Some i → GoodInstr i) → GoodParts p
    → ask_of_instr o p ≡ Some a → GoodQuestion a.question
next_asks None p a here good is = absurd cc
next_asks (Some i) p a here good is = instr_asks i p a (here i refl) good is

process_asks : (ps : List Process) (number : ℕ) (o : Option Process) (a : Ask) → slice_get ps number ≡ o → GoodList ps
    → ask_of_process o ≡ Some a → GoodQuestion a.question
process_asks ps number None a there good is = absurd cc
process_asks ps number (Some p) a there good is =
    let values : GoodParts p = (here_good ps number p there good).values in
    next_asks (slice_get p.script p.place) p a (λ i at. instr_at p.script p.place i values.script at) values is

-- ---- replies

entry_good : (q : Question) (reply : Reply) → GoodQuestion q → GoodReply reply → GoodEntry (entry_of q reply)
entry_good q reply good answered =
    let short : is_short_text q.text ≡ true = good.text.1 in
    let few : nat_le (length q.params) 255 ≡ true = le-leb (length q.params) 255 good.few in
    let one = and-from (is_short_text q.text) (nat_le (length q.params) 255) short few in
    let two = and-from (is_short_text q.text && nat_le (length q.params) 255) (list_all is_short q.params) one (short_values q.params good.params) in
    record {
      typed = (good.text.0, (typed_values q.params good.params, answered.typed));
      ruled = and-from (is_short_text q.text && nat_le (length q.params) 255 && list_all is_short q.params) (reply_rule reply) two answered.ruled;
      room = and-from (nat_lt (length q.params) 65536) (reply_room reply) (lt-ltb (length q.params) 65536 (omega (arith, good.few))) answered.room;
    }

took_good : (o : Option Process) (number : ℕ) (a : Ask) (reply : Reply) (c : Core) → slice_get c.processes number ≡ o
    → GoodQuestion a.question → GoodReply reply → GoodList c.processes → GoodList (took_of o number a reply c).processes
took_good None number a reply c is asked answered good = good
took_good (Some p) number a reply c is asked answered good =
    let entry : Entry = entry_of a.question reply in
    let was : GoodProcess (length c.processes) p = here_good c.processes number p is good in
    put_good c.processes number p is good (process_with_reply a reply p)
    (record {
      values = record {
        variables = was.values.variables;
        cursors = bound GoodCursor a.cursor (record { reply = reply; fetched = 0 }) p.cursors answered was.values.cursors;
        script = was.values.script;
        status = was.values.status;
      };
      told = record {
        entries = all_append GoodEntry p.entries (entry ∷ []) was.told.entries (entry_good a.question reply asked answered, tt);
        root = was.told.root;
        parts = was.told.parts;
        depth = was.told.depth;
        spawned = was.told.spawned;
      };
    })
    (record { name = refl; spawned = omega arith; rest = entry ∷ []; entries = refl })

-- ---- states

pub record GoodDatabase (db : List Table) : Type 0 where
  pub tables : GoodTables db
  pub valid : tables_test db ≡ true

pub record GoodState (s : State SqlDatabase) : Type 0 where
  pub list : GoodList s.core.processes
  pub db : GoodDatabase s.db.tables

module _ (literals : ScriptLiteralsLaw) (constants : StatementLiteralsLaw) (answers : AnswersLaw) (none : NoStatementLaw) where
  answered : (o : Option Statement) (q : Question) (tables : List Table) → statement_of q.text q.params ≡ o
      → GoodQuestion q → GoodDatabase tables → GoodAnswer o tables
  answered None q tables is good db =
      record { reply = (none tables).0; tables = subst GoodTables (sym (none tables).1) db.tables }
  answered (Some s) q tables is good db =
      let short : length q.text ≤ text_limit = leb-true (length q.text) text_limit good.text.1 in
      answers s tables (constants q.text q.params s is good.text.0 short good.params) db.tables
      (and-parts (is_database tables) (list_all is_described tables) db.valid).0

  asking_good : (number : ℕ) (s : State SqlDatabase) (o : Option Ask) → GoodState s → next_ask number s.core ≡ o
      → GoodState (asking sql_base number s o).state
  asking_good number s None good is = record {
    list = quiet_goes literals (slice_get s.core.processes number) number s.core refl good.list;
    db = good.db;
  }
  asking_good number s (Some a) good is =
      let statement : Option Statement = statement_of a.question.text a.question.params in
      let asked : GoodQuestion a.question =
      process_asks s.core.processes number (slice_get s.core.processes number) a refl good.list is in
      let answer : GoodAnswer statement s.db.tables = answered statement a.question s.db.tables refl asked good.db in
      record {
        list =
            took_good (slice_get s.core.processes number) number a (reply_of statement s.db.tables) s.core refl asked
            answer.reply good.list;
        db = record { tables = answer.tables; valid = tables_law statement s.db.tables good.db.valid };
      }

  move_good : (number : ℕ) (s : State SqlDatabase) → GoodState s → GoodState (move_of sql_base number s).state
  move_good number s good =
      let here : GoodState (chosen number s) = record { list = good.list; db = good.db } in
      asking_good number (chosen number s) (next_ask number (chosen number s).core) here refl

  pub run_good : (n : ℕ) (picks : List ℕ) (s : State SqlDatabase) → GoodState s → GoodState (run sql_base n picks s)
  run_good zero picks s good = subst GoodState (sym (run-zero sql_base picks s)) good
  run_good (suc n) picks s good = elim (cases_Bool (is_over s.core)) [
    | inl over ↦ subst GoodState (sym (run-over sql_base (suc n) picks s over)) good
    | inr going ↦
        subst GoodState (sym (run-suc sql_base n picks s going))
        (run_good n (later_picks picks) (move sql_base (first_pick picks) s).state (move_good (choose (first_pick picks) s.core) s good))
  ]
