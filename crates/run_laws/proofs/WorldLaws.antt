-- The law of worlds between, by the cut.
use Rattle.std.proofs.Common.{◌≡◌, ℕ, List, [], ◌++◌, refl, sym, ap, ◌∙◌, subst, true, inl, inr}
use Rattle.std.specs.Prelude.{Option, Some, None, option_and_then, map, filter, slice_get, if◌then◌else◌}
use Rattle.script_parse.specs.Script.{script_of}
use Rattle.sql_model.specs.Tables.{tables_test}
use Rattle.sql_laws.proofs.CutDatabases.{cut_tables_law}
use Rattle.sql_laws.proofs.OtherRows.{database_same}
use Rattle.run_laws.specs.Types.{File, Instr, Started, Event, Mode, Included, Excluded, Outcome, World}
use Rattle.run_model.specs.Between.{HasParents, Cut, FileCut, Gone, Same, Other, cut_world, cut_files, cut_tables, table_stays, KeepsFile, slice_of}
use Rattle.run_model.specs.Core.{Core, have_all_ended}
use Rattle.run_model.specs.Events.{event_at, events, start_events}
use Rattle.run_model.specs.Outcome.{outcome_of_process, outcome_of, outcome_at, by_name}
use Rattle.run_model.specs.Package.{logs_of_mode, tables_of}
use Rattle.run_model.specs.Slice.{FileNeed, Whole, file_need, files_needed}
use Rattle.run_model.specs.SqlDatabase.{SqlDatabase, sql_base}
use Rattle.ldv_value.specs.FileState.{FileState, file_at, initial_files}
use Rattle.ldv_value.proofs.Cases.{cases-option}
use Rattle.ldv_value.proofs.SameBytes.{bytes_eq-itself}
use Rattle.run_model.specs.Start.{start_script, start_state}
use Rattle.run_model.specs.State.{State}
use Rattle.run_model.specs.WorldRun.{core_after, ends_in, ends_by, outcome_in, outcome_by, steps_in, steps_by, events_in, events_by, logs_of, logs_in}
use Rattle.run_laws.specs.Laws.{SameRun, BetweenLaw, InterleavingLaw, ReplayLaw}
use Rattle.run_laws.proofs.CoreSame.{with_files}
use Rattle.run_laws.proofs.FileLaws.{file_same, files_agree}
use Rattle.run_laws.proofs.FilesAgree.{Agrees, later_agrees, outcomes_agree}
use Rattle.run_laws.proofs.Keeps.{KeepsEvents, keeps_events_split, others_stay, KeepsAll, others_keep, keeps_events}
use Rattle.run_laws.proofs.PackageLaws.{files_same, tables_of_same}
use Rattle.run_laws.proofs.RunSame.{SameRuns, run_law}
use Rattle.run_laws.proofs.SliceLaws.{slice_law, own_law}

-- ---- the script

-- a file that is needed whole stays as it is
whole_stays : (need : Option FileNeed) (k : FileCut) → need ≡ Some Whole → KeepsFile need k → k ≡ Same
whole_stays need k is keeps = by k (subst (λ (o : Option FileNeed). KeepsFile o k) is keeps)
  where
    by : (k : FileCut) → KeepsFile (Some Whole) k → k ≡ Same
    by Gone keeps = absurd keeps
    by Same keeps = refl
    by (Other bytes) keeps = absurd keeps

-- the start file is needed whole
start_needed : (path : List ℕ) (events : List Event) → file_need path (start_events (Some path) ++ events) ≡ Some Whole
start_needed path events = rw (bytes_eq-itself path) refl

-- the script is that of the first start word's file, which is needed whole
script_law : (w : World) (script : List Instr) → start_script w ≡ Some script → (cut : Cut) (events : List Event)
    → KeepsAll cut (start_events (slice_get w.start 0) ++ events) → start_script (cut_world cut w) ≡ Some script
script_law w script is cut events keeps = elim (cases-option (slice_get w.start 0)) [
  | inl none ↦ let never : None ≡ Some script = rw none at is in cc
  | inr word ↦
      let all : List Event = start_events (slice_get w.start 0) ++ events in
      let told : all ≡ start_events (Some word.0) ++ events = ap (λ (o : Option (List ℕ)). start_events o ++ events) word.1 in
      let need : file_need word.0 all ≡ Some Whole = ap (file_need word.0) told ∙ start_needed word.0 events in
      let stays : cut.file word.0 ≡ Same = whole_stays (file_need word.0 all) (cut.file word.0) need (keeps.files word.0) in
      let found : file_at word.0 (cut_files cut w.files) ≡ file_at word.0 w.files = file_same cut word.0 stays w.files in
      let at_word : (files : List File) → option_and_then (λ p. file_at p files) (slice_get w.start 0) ≡ file_at word.0 files = λ files. ap (option_and_then (λ p. file_at p files)) word.1 in
      ap (option_and_then (λ (file : File). script_of file.content)) (at_word (cut_files cut w.files) ∙ found ∙ sym (at_word w.files)) ∙ is
]

-- ---- outcomes

outcome_same : (files : FileState) (c : Core) → Agrees [] files c.files → outcome_of (with_files files c) ≡ outcome_of c
outcome_same files c agrees = λ j. record {
  processes = map outcome_of_process (by_name c.processes);
  paths = outcomes_agree [] files c.files agrees j;
}

outcome_at_same : (files : FileState) (c : Core) → Agrees [] files c.files → outcome_at (with_files files c) ≡ outcome_at c
outcome_at_same files c agrees = ap (λ (o : Outcome). if have_all_ended c then Some o else None) (outcome_same files c agrees)

-- the start changes no file
start_later : (word : Option (List ℕ)) (es : List Event) (a b : FileState) → Agrees (start_events word ++ es) a b → Agrees es a b
start_later None es a b agrees = agrees
start_later (Some path) es a b agrees = later_agrees (event_at 0 0 (Started path)) es a b refl agrees

module _ (n : ℕ) (picks : List ℕ) (w : World) (script : List Instr) (is : start_script w ≡ Some script)
    (valid : tables_test w.tables ≡ true) (cut : Cut) (left : tables_test (cut_tables cut w.tables) ≡ true)
    (keeps : KeepsAll cut (events_by n picks w)) where
  abbrev start : State SqlDatabase
  start = start_state w script

  abbrev small : World
  small = cut_world cut w

  abbrev later : List Event
  later = events sql_base n 1 picks start

  events_are : events_by n picks w ≡ start_events (slice_get w.start 0) ++ later
  events_are = ap (events_in n picks w) is

  script_stays : start_script small ≡ Some script
  script_stays = script_law w script is cut later (subst (KeepsAll cut) events_are keeps)

  keeps_run : KeepsEvents cut later
  keeps_run = (keeps_events_split cut (start_events (slice_get w.start 0)) later (subst (KeepsEvents cut) events_are (keeps_events (events_by n picks w) cut keeps))).1

  abbrev small_files : FileState
  small_files = initial_files small.files

  start_agrees : Agrees later small_files start.core.files
  start_agrees =
      start_later (slice_get w.start 0) later small_files start.core.files
      (subst (λ (es : List Event). Agrees es small_files start.core.files) events_are
      (files_agree cut (events_by n picks w) w.files keeps.files))

  runs : SameRuns n 1 picks cut small_files start
  runs = run_law n 1 picks cut small_files start valid left (tt, tt) keeps_run start_agrees

  core_same : core_after n picks small script ≡ with_files runs.final (core_after n picks w script)
  core_same = ap (λ (s : State SqlDatabase). s.core) runs.state

  events_stay : events_by n picks small ≡ events_by n picks w
  events_stay =
      ap (events_in n picks small) script_stays
      ∙ ap (λ (es : List Event). start_events (slice_get w.start 0) ++ es) runs.told
      ∙ sym events_are

  steps_stay : steps_by n picks small ≡ steps_by n picks w
  steps_stay = ap (steps_in n picks small) script_stays ∙ runs.count ∙ sym (ap (steps_in n picks w) is)

  ends_stay : ends_by n picks small ≡ ends_by n picks w
  ends_stay = ap (ends_in n picks small) script_stays ∙ ap have_all_ended core_same ∙ sym (ap (ends_in n picks w) is)

  outcome_stays : outcome_by n picks small ≡ outcome_by n picks w
  outcome_stays =
      ap (outcome_in n picks small) script_stays
      ∙ ap outcome_at core_same
      ∙ outcome_at_same runs.final (core_after n picks w script) runs.agrees
      ∙ sym (ap (outcome_in n picks w) is)

  logs_stay : (mode : Mode) → logs_of_mode mode n picks small ≡ logs_of_mode mode n picks w
  logs_stay Included = refl
  logs_stay Excluded = ap (logs_in n picks small) script_stays ∙ ap logs_of core_same ∙ sym (ap (logs_in n picks w) is)

  files_stay : files_needed (events_by n picks small) small.files ≡ files_needed (events_by n picks w) w.files
  files_stay = ap (λ (es : List Event). files_needed es small.files) events_stay ∙ files_same cut (events_by n picks w) keeps w.files

  tables_stay : (mode : Mode) → tables_of mode (events_by n picks small) small.tables ≡ tables_of mode (events_by n picks w) w.tables
  tables_stay mode = ap (λ (es : List Event). tables_of mode es small.tables) events_stay ∙ tables_of_same cut (events_by n picks w) keeps mode w.tables

  kept_law : SameRun n picks small w script
  kept_law = record {
    script_same = script_stays;
    ends = ends_stay;
    outcome = outcome_stays;
    events = events_stay;
    packed = λ mode j. record {
      mode = mode;
      start = w.start;
      seed = w.seed;
      steps = steps_stay j;
      files = files_stay j;
      tables = tables_stay mode j;
      logs = logs_stay mode j;
      events = events_stay j;
    };
  }

-- a cut of the world's rows alone is the same cut of the world
others_same : (cut : Cut) (w : World) → cut_world (others_stay cut w.tables) w ≡ cut_world cut w
others_same cut w = λ j. record {
  start = w.start;
  seed = w.seed;
  files = cut_files cut w.files;
  tables = filter (table_stays cut) (database_same cut.row w.tables j);
}

pub interleaving_law : InterleavingLaw
interleaving_law n picks w v script is valid (cut, keeps, parents, same) =
    let more : Cut = others_stay cut w.tables in
    let others : KeepsAll more (events_by n picks w) = others_keep cut w.tables (events_by n picks w) keeps in
    let small_is : cut_world more w ≡ v = others_same cut w ∙ sym same in
    let there : HasParents (cut_world more w) = subst HasParents (sym small_is) parents in
    let left : tables_test (cut_tables more w.tables) ≡ true = cut_tables_law more.table more.row w.tables valid there in
    subst (λ (x : World). SameRun n picks x w script) small_is (kept_law n picks w script is valid more left others)

pub between_law : BetweenLaw
between_law n w v script is valid between = interleaving_law n [] w v script is valid between

pub replay_law : ReplayLaw
replay_law n w script is valid =
    subst (λ (x : World). SameRun n [] x w script) (sym (own_law n w)) (between_law n w (slice_of n w) script is valid (slice_law n w valid))
