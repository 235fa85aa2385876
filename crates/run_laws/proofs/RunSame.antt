-- A run from a cut state is the run from the whole state, if the cut keeps all rows that the run needs and
-- the files agree as far as it needs them. Rows that the run made are never cut.
use Rattle.std.proofs.Common.{◌≡◌, ℕ, zero, suc, ◌+◌, List, [], ◌∷◌, ◌++◌, refl, sym, ap, ◌∙◌, subst, true, inl, inr}
use Rattle.std.specs.Prelude.{Option, Some, None, map, slice_get}
use Rattle.std.specs.List.{list_all}
use Rattle.std.proofs.lemmas.Bool.{cases_Bool}
use Rattle.std.proofs.lemmas.List.{map-append, append_assoc}
use Rattle.ldv_value.specs.FileState.{FileState}
use Rattle.ldv_value.proofs.Booleans.{and-parts}
use Rattle.sql_model.specs.Needs.{need_of}
use Rattle.sql_model.specs.Statements.{reply_of, after}
use Rattle.sql_model.specs.Tables.{is_database, is_described, tables_test}
use Rattle.sql_model.specs.Texts.{statement_of}
use Rattle.sql_laws.specs.QueryLaw.{KeepsNeeded as KeepsRows}
use Rattle.sql_laws.proofs.DatabaseLaws.{tables_law}
use Rattle.run_laws.specs.Types.{Act, Statement, Table, Event, Reply}
use Rattle.run_model.specs.Between.{Cut, cut_tables, cut_database}
use Rattle.run_model.specs.Core.{Process, Core, is_over}
use Rattle.run_model.specs.Database.{Gives}
use Rattle.run_model.specs.Events.{event_at, events_of_step, events_after, events}
use Rattle.run_model.specs.Run.{first_pick, later_picks, chosen, move_of, move, run, steps}
use Rattle.run_model.specs.Schedule.{choose}
use Rattle.run_model.specs.SqlDatabase.{SqlDatabase, db_after, lists_of, answer_of, sql_base}
use Rattle.run_model.specs.State.{State, StepResult}
use Rattle.run_model.specs.Step.{Ask, process_with_reply, Effect, local_step, took_of, took, next_ask, kept_by, kept, told, asking, asked_act, ends_at}
use Rattle.run_model.proofs.Equations.{run-zero, run-over, run-suc, steps-zero, steps-over, steps-suc, events-zero, events-over, events-suc}
use Rattle.run_laws.proofs.CoreSame.{with_files, OpenSame, AllOpen, found_open, EffectSame, quiet_same, ends_later}
use Rattle.run_laws.proofs.FilesAgree.{Agrees, later_agrees}
use Rattle.run_laws.proofs.Keeps.{KeepsAct, KeepsEvents, keeps_events_split, rows_of_reads, others_stay, events_more}
use Rattle.run_laws.proofs.StatementSame.{answers_same, changes_same}
use Rattle.run_laws.proofs.ProcessPlaces.{set_all}

pub database_of : (tables : List Table) → tables_test tables ≡ true → is_database tables ≡ true
database_of tables valid = (and-parts (is_database tables) (list_all is_described tables) valid).0

-- ---- a step

-- the state without what is cut of its database, and with other files
abbrev pub small_state : Cut → FileState → State SqlDatabase → State SqlDatabase
small_state cut files s = record { core = with_files files s.core; db = cut_database cut s.db }

abbrev pub small_step : Cut → FileState → StepResult SqlDatabase → StepResult SqlDatabase
small_step cut files m = record { process = m.process; state = small_state cut files m.state; acts = m.acts }

abbrev pub KeepsActs : Cut → List Act → Type 0
KeepsActs cut [] = Unit {0}
KeepsActs cut (act ∷ acts) = KeepsAct cut act × KeepsActs cut acts

-- after a statement only rows of the tables before it are cut
abbrev cut_after : Cut → SqlDatabase → Option Ask → Cut
cut_after cut db None = cut
cut_after cut db (Some a) = others_stay cut db.tables

-- what is left of the tables is such as a world may have: no parent of them is cut
abbrev pub LeftTables : Cut → SqlDatabase → Type 0
LeftTables cut db = tables_test (cut_tables cut db.tables) ≡ true

-- a step is the same, the files agree afterwards, and such tables are left
pub record StepSame (later : List Event) (cut : Cut) (small whole : StepResult SqlDatabase) : Type 0 where
  pub left : LeftTables cut whole.state.db
  pub files : FileState
  pub same : small ≡ small_step cut files whole
  pub agrees : Agrees later files whole.state.core.files
  pub opened : AllOpen files whole.state.core.files whole.state.core.processes

took_same : (o : Option Process) (number : ℕ) (a : Ask) (reply : Reply) (files : FileState) (c : Core)
    → took_of o number a reply (with_files files c) ≡ with_files files (took_of o number a reply c)
took_same None number a reply files c = refl
took_same (Some p) number a reply files c = refl

took_agrees : (later : List Event) (o : Option Process) (number : ℕ) (a : Ask) (reply : Reply) (files : FileState) (c : Core)
    → slice_get c.processes number ≡ o → Agrees later files c.files → AllOpen files c.files c.processes
    → Agrees later files (took_of o number a reply c).files
    × AllOpen files (took_of o number a reply c).files (took_of o number a reply c).processes
took_agrees later None number a reply files c is agrees opened = (agrees, opened)
took_agrees later (Some p) number a reply files c is agrees opened = (
  agrees,
  set_all (OpenSame files c.files) c.processes number (process_with_reply a reply p) (found_open files c.files c.processes number p opened is) opened,
)

module _ (step number : ℕ) (later : List Event) (cut : Cut) (files : FileState) (s : State SqlDatabase)
    (valid : tables_test s.db.tables ≡ true) (left : LeftTables cut s.db) (opened : AllOpen files s.core.files s.core.processes) where
  abbrev acted : List Act → List Event
  acted acts = map (event_at step number) acts ++ later

  kept_same : Agrees (acted (kept number s).acts) files s.core.files
      → StepSame later cut (kept_by number (cut_database cut s.db) (local_step number (with_files files s.core))) (kept number s)
  kept_same agrees =
      let e : Effect = local_step number s.core in
      let ends : List Event = map (event_at step number) (ends_at number e.core) in
      let split : acted (e.acts ++ ends_at number e.core) ≡ map (event_at step number) e.acts ++ (ends ++ later) =
      ap (λ (l : List Event). l ++ later) (map-append (event_at step number) e.acts (ends_at number e.core))
      ∙ append_assoc (map (event_at step number) e.acts) ends later in
      let q : EffectSame (ends ++ later) (local_step number (with_files files s.core)) e =
      quiet_same step number (ends ++ later) files s.core opened (subst (λ (es : List Event). Agrees es files s.core.files) split agrees) in
      record {
        left = left;
        files = q.files;
        same = λ j. record {
          process = number;
          state = record { core = q.core j; db = cut_database cut s.db };
          acts = q.acts j ++ ends_at number (q.core j);
        };
        agrees = ends_later step number e.core later q.files e.core.files q.agrees;
        opened = q.opened;
      }

  told_same : (a : Ask) → KeepsActs cut (told number a s (sql_base s.db a.question)).acts
      → Agrees (acted (told number a s (sql_base s.db a.question)).acts) files s.core.files
      → StepSame later (others_stay cut s.db.tables) (told number a (small_state cut files s) (sql_base (cut_database cut s.db) a.question))
      (told number a s (sql_base s.db a.question))
  told_same a keeps agrees =
      let statement : Option Statement = statement_of a.question.text a.question.params in
      let rows : KeepsRows cut.row (need_of statement s.db.tables) = rows_of_reads cut s.db.versions (need_of statement s.db.tables) keeps.0.1 in
      let answers : answer_of statement (cut_database cut s.db) ≡ Gives (reply_of statement s.db.tables) (cut_database (others_stay cut s.db.tables) (db_after statement s.db)) (lists_of statement s.db) =
      answers_same cut statement s.db (database_of s.db.tables valid) (database_of (cut_tables cut s.db.tables) left) keeps.0.0 rows in
      let changes : after statement (cut_tables cut s.db.tables) ≡ cut_tables (others_stay cut s.db.tables) (after statement s.db.tables) =
      changes_same cut statement s.db (database_of s.db.tables valid) (database_of (cut_tables cut s.db.tables) left) keeps.0.0 rows in
      let reply : Reply = reply_of statement s.db.tables in
      let new : Core = took number a reply s.core in
      let core : took number a reply (with_files files s.core) ≡ with_files files new = took_same (slice_get s.core.processes number) number a reply files s.core in
      let ends : List Event = map (event_at step number) (ends_at number new) in
      let both = took_agrees (ends ++ later) (slice_get s.core.processes number) number a reply files s.core refl
      (later_agrees (event_at step number (asked_act s.core.asked (lists_of statement s.db))) (ends ++ later) files s.core.files refl agrees) opened in
      record {
        left = ap tables_test (sym changes) ∙ tables_law statement (cut_tables cut s.db.tables) left;
        files = files;
        same =
            ap (told number a (small_state cut files s)) answers
            ∙ (λ j. record {
              process = number;
              state = record { core = core j; db = cut_database (others_stay cut s.db.tables) (db_after statement s.db) };
              acts = asked_act s.core.asked (lists_of statement s.db) ∷ ends_at number (core j);
            });
        agrees = ends_later step number new later files new.files both.0;
        opened = both.1;
      }

  asking_same : (o : Option Ask) → KeepsActs cut (asking sql_base number s o).acts
      → Agrees (acted (asking sql_base number s o).acts) files s.core.files
      → StepSame later (cut_after cut s.db o) (asking sql_base number (small_state cut files s) o) (asking sql_base number s o)
  asking_same None keeps agrees = kept_same agrees
  asking_same (Some a) keeps agrees = told_same a keeps agrees

-- ---- a move

abbrev next_cut : Cut → Option ℕ → State SqlDatabase → Cut
next_cut cut pick s = cut_after cut s.db (next_ask (choose pick s.core) (chosen (choose pick s.core) s).core)

-- the same process is chosen
chosen_same : (step number : ℕ) (later : List Event) (cut : Cut) (files : FileState) (s : State SqlDatabase)
    → tables_test s.db.tables ≡ true → LeftTables cut s.db → AllOpen files s.core.files s.core.processes
    → KeepsActs cut (move_of sql_base number s).acts
    → Agrees (map (event_at step number) (move_of sql_base number s).acts ++ later) files s.core.files
    → StepSame later (cut_after cut s.db (next_ask number (chosen number s).core)) (move_of sql_base number (small_state cut files s))
    (move_of sql_base number s)
chosen_same step number later cut files s valid left opened keeps agrees =
    asking_same step number later cut files (chosen number s) valid left opened (next_ask number (chosen number s).core) keeps agrees

move_same : (step : ℕ) (later : List Event) (cut : Cut) (files : FileState) (pick : Option ℕ) (s : State SqlDatabase)
    → tables_test s.db.tables ≡ true → LeftTables cut s.db → AllOpen files s.core.files s.core.processes
    → KeepsActs cut (move sql_base pick s).acts
    → Agrees (map (event_at step (choose pick s.core)) (move sql_base pick s).acts ++ later) files s.core.files
    → StepSame later (next_cut cut pick s) (move sql_base pick (small_state cut files s)) (move sql_base pick s)
move_same step later cut files None s valid left opened keeps agrees =
    chosen_same step (choose None s.core) later cut files s valid left opened keeps agrees
move_same step later cut files (Some k) s valid left opened keeps agrees =
    chosen_same step (choose (Some k) s.core) later cut files s valid left opened keeps agrees

asking_process : (number : ℕ) (s : State SqlDatabase) (o : Option Ask) → (asking sql_base number s o).process ≡ number
asking_process number s None = refl
asking_process number s (Some a) = refl

move_process : (pick : Option ℕ) (s : State SqlDatabase) → (move sql_base pick s).process ≡ choose pick s.core
move_process pick s =
    let number : ℕ = choose pick s.core in
    asking_process number (chosen number s) (next_ask number (chosen number s).core)

-- later a cut keeps what it kept
later_keeps : (cut : Cut) (db : SqlDatabase) (o : Option Ask) (es : List Event) → KeepsEvents cut es → KeepsEvents (cut_after cut db o) es
later_keeps cut db None es keeps = keeps
later_keeps cut db (Some a) es keeps = events_more cut db.tables es keeps

keeps_acts : (cut : Cut) (step process : ℕ) (acts : List Act) → KeepsEvents cut (map (event_at step process) acts) → KeepsActs cut acts
keeps_acts cut step process [] keeps = tt
keeps_acts cut step process (act ∷ acts) keeps = (keeps.0, keeps_acts cut step process acts keeps.1)

-- ---- the tables of a run are such as a world may have

asking_stays : (number : ℕ) (s : State SqlDatabase) (o : Option Ask) → tables_test s.db.tables ≡ true
    → tables_test (asking sql_base number s o).state.db.tables ≡ true
asking_stays number s None valid = valid
asking_stays number s (Some a) valid = tables_law (statement_of a.question.text a.question.params) s.db.tables valid

pub move_stays : (pick : Option ℕ) (s : State SqlDatabase) → tables_test s.db.tables ≡ true
    → tables_test (move sql_base pick s).state.db.tables ≡ true
move_stays pick s valid =
    let number : ℕ = choose pick s.core in
    asking_stays number (chosen number s) (next_ask number (chosen number s).core) valid

-- ---- runs

-- the same run, events and number of steps
pub record SameRuns (n number : ℕ) (picks : List ℕ) (cut : Cut) (files : FileState) (s : State SqlDatabase) : Type 0 where
  pub end : Cut
  pub final : FileState
  pub state : run sql_base n picks (small_state cut files s) ≡ small_state end final (run sql_base n picks s)
  pub told : events sql_base n number picks (small_state cut files s) ≡ events sql_base n number picks s
  pub count : steps sql_base n picks (small_state cut files s) ≡ steps sql_base n picks s
  pub agrees : Agrees [] final (run sql_base n picks s).core.files

-- a run that makes no step
still_same : (n number : ℕ) (picks : List ℕ) (cut : Cut) (files : FileState) (s : State SqlDatabase)
    → run sql_base n picks (small_state cut files s) ≡ small_state cut files s → run sql_base n picks s ≡ s
    → events sql_base n number picks (small_state cut files s) ≡ [] → events sql_base n number picks s ≡ []
    → steps sql_base n picks (small_state cut files s) ≡ 0 → steps sql_base n picks s ≡ 0
    → Agrees (events sql_base n number picks s) files s.core.files
    → SameRuns n number picks cut files s
still_same n number picks cut files s small_run run_is small_told told_is small_count count_is agrees = record {
  end = cut;
  final = files;
  state = small_run ∙ sym (ap (small_state cut files) run_is);
  told = small_told ∙ sym told_is;
  count = small_count ∙ sym count_is;
  agrees =
      subst (λ (t : State SqlDatabase). Agrees [] files t.core.files) (sym run_is)
      (subst (λ (es : List Event). Agrees es files s.core.files) told_is agrees);
}

over_same : (n number : ℕ) (picks : List ℕ) (cut : Cut) (files : FileState) (s : State SqlDatabase) → is_over s.core ≡ true
    → Agrees (events sql_base n number picks s) files s.core.files → SameRuns n number picks cut files s
over_same n number picks cut files s over agrees =
    let small : State SqlDatabase = small_state cut files s in
    still_same n number picks cut files s (run-over sql_base n picks small over) (run-over sql_base n picks s over)
    (events-over sql_base n number picks small over) (events-over sql_base n number picks s over)
    (steps-over sql_base n picks small over) (steps-over sql_base n picks s over) agrees

pub run_law : (n number : ℕ) (picks : List ℕ) (cut : Cut) (files : FileState) (s : State SqlDatabase) → tables_test s.db.tables ≡ true
    → LeftTables cut s.db → AllOpen files s.core.files s.core.processes
    → KeepsEvents cut (events sql_base n number picks s) → Agrees (events sql_base n number picks s) files s.core.files
    → SameRuns n number picks cut files s
run_law zero number picks cut files s valid left opened keeps agrees =
    let small : State SqlDatabase = small_state cut files s in
    still_same 0 number picks cut files s (run-zero sql_base picks small) (run-zero sql_base picks s)
    (events-zero sql_base number picks small) (events-zero sql_base number picks s)
    (steps-zero sql_base picks small) (steps-zero sql_base picks s) agrees
run_law (suc n) number picks cut files s valid left opened keeps agrees = elim (cases_Bool (is_over s.core)) [
  | inl over ↦ over_same (suc n) number picks cut files s over agrees
  | inr going ↦
      let pick : Option ℕ = first_pick picks in
      let rest : List ℕ = later_picks picks in
      let small : State SqlDatabase = small_state cut files s in
      let one : StepResult SqlDatabase = move sql_base pick s in
      let later : List Event = events sql_base n (number + 1) rest one.state in
      let both = keeps_events_split cut (events_of_step number one) later (subst (KeepsEvents cut) (events-suc sql_base n number picks s going) keeps) in
      let acts : KeepsActs cut one.acts = keeps_acts cut number one.process one.acts both.0 in
      let needs : Agrees (events_of_step number one ++ later) files s.core.files =
      subst (λ (es : List Event). Agrees es files s.core.files) (events-suc sql_base n number picks s going) agrees in
      let by_number : Agrees (map (event_at number (choose pick s.core)) one.acts ++ later) files s.core.files =
      subst (λ (k : ℕ). Agrees (map (event_at number k) one.acts ++ later) files s.core.files) (move_process pick s) needs in
      let next : Cut = next_cut cut pick s in
      let here : StepSame later next (move sql_base pick small) one = move_same number later cut files pick s valid left opened acts by_number in
      let kept : KeepsEvents next later = later_keeps cut s.db (next_ask (choose pick s.core) (chosen (choose pick s.core) s).core) later both.1 in
      let more : SameRuns n (number + 1) rest next here.files one.state =
      run_law n (number + 1) rest next here.files one.state (move_stays pick s valid) here.left here.opened kept here.agrees in
      record {
        end = more.end;
        final = more.final;
        state =
            run-suc sql_base n picks small going
            ∙ ap (λ (m : StepResult SqlDatabase). run sql_base n rest m.state) here.same
            ∙ more.state
            ∙ sym (ap (small_state more.end more.final) (run-suc sql_base n picks s going));
        told =
            events-suc sql_base n number picks small going
            ∙ ap (events_after (events sql_base n) number rest) here.same
            ∙ ap (λ (es : List Event). events_of_step number one ++ es) more.told
            ∙ sym (events-suc sql_base n number picks s going);
        count =
            steps-suc sql_base n picks small going
            ∙ ap (λ (m : StepResult SqlDatabase). 1 + steps sql_base n rest m.state) here.same
            ∙ ap (λ (k : ℕ). 1 + k) more.count
            ∙ sym (steps-suc sql_base n picks s going);
        agrees =
            subst (λ (t : State SqlDatabase). Agrees [] more.final t.core.files) (sym (run-suc sql_base n picks s going)) more.agrees;
      }
]
