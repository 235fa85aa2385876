-- A run that has ended yields the same with more steps.
use Rattle.std.proofs.Common.{◌≡◌, ℕ, ◌+◌, ◌-◌, ◌≤◌, List, ◌++◌, refl, sym, ap, ◌∙◌, true, false, arith, inl, inr}
use Rattle.std.specs.Prelude.{Some, slice_get, is_some}
use Rattle.ldv_value.proofs.Cases.{cases-option}
use Rattle.ldv_value.proofs.Booleans.{or-right}
use Rattle.run_laws.specs.Types.{Instr, Event, Mode, Included, Excluded, World}
use Rattle.run_model.specs.Core.{Core, have_all_ended, is_over}
use Rattle.run_model.specs.Events.{events, start_events}
use Rattle.run_model.specs.Outcome.{outcome_at}
use Rattle.run_model.specs.Package.{tables_of, logs_of_mode}
use Rattle.run_model.specs.Run.{steps}
use Rattle.run_model.specs.Slice.{files_needed}
use Rattle.run_model.specs.SqlDatabase.{SqlDatabase, sql_base}
use Rattle.run_model.specs.Start.{start_script, start_state}
use Rattle.run_model.specs.State.{State}
use Rattle.run_model.specs.WorldRun.{core_after, ends_in, ends_by, outcome_in, outcome_by, steps_in, steps_by, events_in, events_by, logs_of, logs_in}
use Rattle.run_model.proofs.Settled.{IsSettled, settled}
use Rattle.run_laws.specs.Laws.{SettledRun, EndedLaw}

-- an ended run is over
pub ended_over : (c : Core) → have_all_ended c ≡ true → is_over c ≡ true
ended_over c ended = or-right (is_some c.diverged) (have_all_ended c) ended

module _ (n budget : ℕ) (picks : List ℕ) (w : World) (script : List Instr) (is : start_script w ≡ Some script)
    (ended : have_all_ended (core_after n picks w script) ≡ true) (enough : n ≤ budget) where
  abbrev start : State SqlDatabase
  start = start_state w script

  split : n + (budget - n) ≡ budget
  split = omega (arith, enough)

  same : IsSettled sql_base n (budget - n) 1 picks start
  same = settled sql_base n (budget - n) 1 picks start (ended_over (core_after n picks w script) ended)

  cores : core_after budget picks w script ≡ core_after n picks w script
  cores = ap (λ (k : ℕ). core_after k picks w script) (sym split) ∙ ap (λ (s : State SqlDatabase). s.core) same.state

  outcomes : outcome_by budget picks w ≡ outcome_by n picks w
  outcomes = ap (outcome_in budget picks w) is ∙ ap outcome_at cores ∙ sym (ap (outcome_in n picks w) is)

  counts : steps_by budget picks w ≡ steps_by n picks w
  counts =
      ap (steps_in budget picks w) is
      ∙ ap (λ (k : ℕ). steps sql_base k picks start) (sym split)
      ∙ same.count
      ∙ sym (ap (steps_in n picks w) is)

  all_events : events_by budget picks w ≡ events_by n picks w
  all_events =
      ap (events_in budget picks w) is
      ∙ ap (λ (k : ℕ). start_events (slice_get w.start 0) ++ events sql_base k 1 picks start) (sym split)
      ∙ ap (λ (es : List Event). start_events (slice_get w.start 0) ++ es) same.told
      ∙ sym (ap (events_in n picks w) is)

  logs : (mode : Mode) → logs_of_mode mode budget picks w ≡ logs_of_mode mode n picks w
  logs Included = refl
  logs Excluded = ap (logs_in budget picks w) is ∙ ap logs_of cores ∙ sym (ap (logs_in n picks w) is)

  settles : SettledRun n budget picks w
  settles = record {
    outcome = outcomes;
    packed = λ mode j. record {
      mode = mode;
      start = w.start;
      seed = w.seed;
      steps = counts j;
      files = files_needed (all_events j) w.files;
      tables = tables_of mode (all_events j) w.tables;
      logs = logs mode j;
      events = all_events j;
    };
  }

-- and had a script
pub ended_starts : (n : ℕ) (picks : List ℕ) (w : World) → ends_by n picks w ≡ true → (script : List Instr) × (start_script w ≡ Some script)
ended_starts n picks w ended = elim (cases-option (start_script w)) [
  | inl none ↦ let never : false ≡ true = sym (ap (ends_in n picks w) none) ∙ ended in absurd cc
  | inr script ↦ script
]

pub ended_law : EndedLaw
ended_law n budget picks w ended enough =
    let script = ended_starts n picks w ended in
    let all : have_all_ended (core_after n picks w script.0) ≡ true = sym (ap (ends_in n picks w) script.1) ∙ ended in
    settles n budget picks w script.0 script.1 all enough
