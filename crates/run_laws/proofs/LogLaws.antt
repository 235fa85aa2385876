-- The package of recorded replies runs as the world did: its files lie between the needed files and the
-- world's, and over them its logs reply as the tables did.
use Rattle.std.proofs.Common.{◌≡◌, ℕ, zero, suc, ◌+◌, ◌-◌, ◌<◌, ◌≤◌, List, [], ◌++◌, refl, sym, ap, ◌∙◌, subst, Bool, true, false, arith, le_refl, inl, inr}
use Rattle.std.specs.Prelude.{Some, None, slice_get, nat_lt, if◌then◌else◌}
use Rattle.std.proofs.lemmas.Bool.{cases_Bool, ltb-true, ltb-false}
use Rattle.ldv_value.proofs.Booleans.{false≢true}
use Rattle.sql_model.specs.Statements.{reply_of}
use Rattle.sql_model.specs.Tables.{tables_test}
use Rattle.sql_model.specs.Texts.{statement_of}
use Rattle.run_laws.specs.Types.{File, Instr, Reply, Event, Entry, Excluded, Package, World}
use Rattle.run_model.specs.Between.{cut_world, slice_cut}
use Rattle.run_model.specs.Core.{Core, have_all_ended, start_core}
use Rattle.run_model.specs.Database.{Question, Lists}
use Rattle.run_model.specs.LogDatabase.{entries_left, log_base}
use Rattle.run_model.specs.LogRun.{log_core, log_outcome_in, log_outcome, log_divergence_in, log_divergence}
use Rattle.run_model.specs.Outcome.{outcome_of, outcome_at}
use Rattle.run_model.specs.Package.{package_by, own_world}
use Rattle.run_model.specs.Run.{run, steps}
use Rattle.run_model.specs.SqlDatabase.{SqlDatabase, db_after, lists_of, sql_base}
use Rattle.run_model.specs.Start.{start_script, start_state}
use Rattle.run_model.specs.State.{State}
use Rattle.run_model.specs.WorldRun.{core_after, ends_in, ends_by, outcome_in, outcome_by, steps_in, steps_by, events_by, logs_of, logs_in}
use Rattle.run_model.proofs.StepActs.{few_steps as steps_most}
use Rattle.run_laws.specs.Laws.{SameRun, SettledRun}
use Rattle.run_laws.specs.LogLaws.{LogLaw, PickedLogLaw}
use Rattle.run_laws.proofs.EndedLaw.{ended_law}
use Rattle.run_laws.proofs.LogEntries.{logged_entries}
use Rattle.run_laws.proofs.LogRuns.{Follows, Left, run_follows, grows_more, log_run}
use Rattle.run_laws.proofs.ProcessNames.{Grows, Named}
use Rattle.run_laws.proofs.QuietSteps.{entries_in}
use Rattle.run_laws.proofs.RunSteps.{no_more}
use Rattle.run_laws.proofs.SliceLaws.{own_files, slice_keeps, slice_parents}
use Rattle.run_laws.proofs.WorldLaws.{interleaving_law}

-- ---- tables have a reply to every question

abbrev sql_reply : SqlDatabase → Question → Reply
sql_reply db q = reply_of (statement_of q.text q.params) db.tables

abbrev sql_next : SqlDatabase → Question → SqlDatabase
sql_next db q = db_after (statement_of q.text q.params) db

abbrev sql_lists : SqlDatabase → Question → Lists
sql_lists db q = lists_of (statement_of q.text q.params) db

-- ---- the run over the logs of its own end

module _ (w : World) (script : List Instr) where
  abbrev start : State SqlDatabase
  start = start_state w script

  -- the first process is the only one, and asked nothing
  start_named : Named start.core.processes
  start_named = record { distinct = (tt, tt); made = (inl refl, tt) }

  asked_nothing : (k : ℕ) → entries_in (slice_get start.core.processes k) ≡ []
  asked_nothing zero = refl
  asked_nothing (suc zero) = refl
  asked_nothing (suc (suc k)) = refl

  module _ (n : ℕ) (picks : List ℕ) where
    abbrev final : Core
    final = core_after n picks w script

    follows : Follows start.core final
    follows = run_follows sql_reply sql_next sql_lists n picks start

    final_named : Named final.processes
    final_named = follows.named start_named

    none_diverged : final.diverged ≡ None
    none_diverged = follows.diverged

    all_left : Left final.processes start.core.processes (logs_of final)
    all_left k q is =
        sym (logged_entries final k q final_named.distinct is)
        ∙ ap (λ (es : List Entry). es ++ entries_left q.name (logs_of final)) (sym (asked_nothing k))

    -- after each number of steps before it
    over_logs : (m : ℕ) → m ≤ n
        → (run log_base m picks (record { core = start.core; db = logs_of final })).core ≡ core_after m picks w script
    over_logs m before =
        let split : m + (n - m) ≡ n = omega (arith, before) in
        let grows : Grows (core_after m picks w script).processes final.processes =
        subst (λ (k : ℕ). Grows (core_after m picks w script).processes (core_after k picks w script).processes) split
        (grows_more sql_reply sql_next sql_lists m (n - m) picks start) in
        log_run sql_reply sql_next sql_lists m picks start (logs_of final) final.processes grows final_named.distinct all_left

-- a run that hasn't ended has no outcome
no_outcome : (m : ℕ) (picks : List ℕ) (w : World) (script : List Instr) → start_script w ≡ Some script
    → ends_by m picks w ≡ false → outcome_by m picks w ≡ None
no_outcome m picks w script is going =
    let c : Core = core_after m picks w script in
    let running : have_all_ended c ≡ false = sym (ap (ends_in m picks w) is) ∙ going in
    ap (outcome_in m picks w) is
    ∙ ap (λ (b : Bool). if b then Some (outcome_of c) else None) running

-- ---- the run of the package

module _ (n : ℕ) (picks : List ℕ) (w : World) (script : List Instr) (is : start_script w ≡ Some script)
    (valid : tables_test w.tables ≡ true) where
  abbrev all : List Event
  all = events_by n picks w

  -- the world of what the run needed
  abbrev pub slice : World
  slice = cut_world (slice_cut all) w

  abbrev pub packed : Package
  packed = package_by Excluded n picks w

  pub same : SameRun n picks slice w script
  same = interleaving_law n picks w slice script is valid (slice_cut all, slice_keeps all w.tables, slice_parents n picks w valid, refl)

  files_are : (own_world packed).files ≡ slice.files
  files_are = own_files all w.files

  logs_are : packed.logs ≡ logs_of (core_after n picks slice script)
  logs_are = sym (ap (λ (p : Package). p.logs) (same.packed Excluded)) ∙ ap (logs_in n picks slice) same.script_same

  pub script_is : start_script (own_world packed) ≡ Some script
  script_is =
      ap (λ (files : List File). start_script (record { start = w.start; seed = w.seed; files = files; tables = [] })) files_are
      ∙ same.script_same

  pub core_is : (m : ℕ) → m ≤ n → log_core m picks packed script ≡ core_after m picks slice script
  core_is m before =
      (λ j. (run log_base m picks (record { core = start_core w.start w.seed (files_are j) script; db = logs_are j })).core)
      ∙ over_logs slice script n picks m before

  divergence : (m : ℕ) → m ≤ n → log_divergence m picks packed ≡ None
  divergence m before =
      ap (log_divergence_in m picks packed) script_is
      ∙ ap (λ (c : Core). c.diverged) (core_is m before)
      ∙ none_diverged slice script m picks

  outcome_is : (m : ℕ) → m ≤ n → log_outcome m picks packed ≡ outcome_by m picks slice
  outcome_is m before =
      ap (log_outcome_in m picks packed) script_is
      ∙ ap outcome_at (core_is m before)
      ∙ sym (ap (outcome_in m picks slice) same.script_same)

  outcome : log_outcome n picks packed ≡ outcome_by n picks w
  outcome = outcome_is n (le_refl n) ∙ same.outcome

  -- ---- before the end

  pub steps_are : steps_by n picks slice ≡ steps_by n picks w
  steps_are = ap (λ (p : Package). p.steps) (same.packed Excluded)

  -- where the slice's run has ended, the world's has made all its steps
  few_steps : (m : ℕ) → m ≤ n → ends_by m picks slice ≡ true → steps sql_base n picks (start_state w script) ≤ m
  few_steps m before ended =
      let settled : SettledRun m n picks slice = ended_law m n picks slice ended before in
      let still : steps_by n picks slice ≡ steps_by m picks slice =
      ap (λ (p : Package). p.steps) (settled.packed Excluded) in
      let made : steps_by m picks slice ≡ steps sql_base m picks (start_state slice script) =
      ap (steps_in m picks slice) same.script_same in
      let most : steps sql_base m picks (start_state slice script) ≤ m =
      steps_most sql_base m picks (start_state slice script) in
      let own : steps_by n picks w ≡ steps sql_base n picks (start_state w script) = ap (steps_in n picks w) is in
      omega (arith, steps_are, still, made, most, own)

  -- and so has ended
  ends_with : (m : ℕ) → m ≤ n → ends_by n picks w ≡ true → ends_by m picks slice ≡ true → ends_by m picks w ≡ true
  ends_with m before ended early =
      let split : m + (n - m) ≡ n = omega (arith, before) in
      let few : steps sql_base (m + (n - m)) picks (start_state w script) ≤ m =
      subst (λ (k : ℕ). steps sql_base k picks (start_state w script) ≤ m) (sym split) (few_steps m before early) in
      let cores : core_after m picks w script ≡ core_after n picks w script =
      sym (ap (λ (s : State SqlDatabase). s.core) (no_more sql_base m (n - m) picks (start_state w script) few))
      ∙ ap (λ (k : ℕ). core_after k picks w script) split in
      ap (ends_in m picks w) is ∙ ap have_all_ended cores ∙ sym (ap (ends_in n picks w) is) ∙ ended

  outcome_before : (m : ℕ) → m ≤ n → ends_by n picks w ≡ true → ends_by m picks w ≡ false
      → log_outcome m picks packed ≡ outcome_by m picks w
  outcome_before m before ended going = elim (cases_Bool (ends_by m picks slice)) [
    | inl early ↦ absurd (false≢true (sym going ∙ ends_with m before ended early))
    | inr later ↦
        outcome_is m before
        ∙ no_outcome m picks slice script same.script_same later
        ∙ sym (no_outcome m picks w script is going)
  ]

-- ---- within any budget

module _ (n budget : ℕ) (picks : List ℕ) (w : World) (script : List Instr) (is : start_script w ≡ Some script)
    (valid : tables_test w.tables ≡ true) where
  abbrev HoldsWithin : Package → Type 0
  HoldsWithin p = (log_divergence budget picks p ≡ None) × (log_outcome budget picks p ≡ outcome_by budget picks w)

  -- where the package is that of the run within the budget
  same_package : package_by Excluded budget picks w ≡ package_by Excluded n picks w
      → HoldsWithin (package_by Excluded n picks w)
  same_package packages =
      let own : HoldsWithin (package_by Excluded budget picks w) =
      (divergence budget picks w script is valid budget (le_refl budget), outcome budget picks w script is valid) in
      subst HoldsWithin packages own

  within_budget : ends_by n picks w ≡ true → HoldsWithin (package_by Excluded n picks w)
  within_budget ended = elim (cases_Bool (nat_lt budget n)) [
    | inr enough ↦
        let above : n ≤ budget = ltb-false budget n enough in
        same_package ((ended_law n budget picks w ended above).packed Excluded)
    | inl less ↦
        let below : budget < n = ltb-true budget n less in
        let before : budget ≤ n = omega (arith, below) in
        elim (cases_Bool (ends_by budget picks w)) [
          | inl early ↦ same_package (sym ((ended_law budget n picks w early before).packed Excluded))
          | inr going ↦ (
            divergence n picks w script is valid budget before,
            outcome_before n picks w script is valid budget before ended going,
          )
        ]
  ]

pub picked_log_law : PickedLogLaw
picked_log_law n budget picks w script is valid ended = within_budget n budget picks w script is valid ended

pub log_law : LogLaw
log_law n budget w script is valid ended enough =
    let both = picked_log_law n budget [] w script is valid ended in
    (both.0, both.1 ∙ (ended_law n budget [] w ended enough).outcome)
