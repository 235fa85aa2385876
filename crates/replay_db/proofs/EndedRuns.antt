-- A run over files and an engine is the run of its world.
use Rattle.std.proofs.Common.{◌≡◌, ℕ, List, [], ◌++◌, sym, ap, ◌∙◌, Bool, true, append_assoc}
use Rattle.std.specs.Prelude.{Option, Some, option_and_then, slice_get}
use Rattle.std.specs.List.{list_all}
use Rattle.ldv_value.proofs.Booleans.{and-first, and-second}
use Rattle.ldv_value.proofs.Lists.{list_all-weaker}
use Rattle.ldv_value.specs.declared.file.File.{File}
use Rattle.script_parse.specs.Script.{script_of}
use Rattle.script_parse.specs.declared.script.Instr.{Instr}
use Rattle.proc_core.specs.Stands.{AppendsEvents}
use Rattle.run_model.specs.declared.event.Event.{Event}
use Rattle.run_model.specs.declared.outcome.Outcome.{Outcome}
use Rattle.run_model.specs.declared.world.World.{World}
use Rattle.run_model.specs.Core.{have_all_ended}
use Rattle.run_model.specs.Events.{events, start_events}
use Rattle.run_model.specs.Outcome.{outcome_of, outcome_at}
use Rattle.run_model.specs.Run.{run, steps}
use Rattle.run_model.specs.SqlDatabase.{SqlDatabase, sql_base}
use Rattle.run_model.specs.Start.{start_script, start_state}
use Rattle.run_model.specs.State.{State}
use Rattle.run_model.specs.WorldRun.{core_after, ends_in, ends_within, outcome_in, outcome_within, steps_in, steps_by, events_in, events_within}
use Rattle.sql_model.specs.Tables.{have_distinct_columns}
use Rattle.sql_model.specs.Tables.{are_distinct, is_database, is_described, tables_test}
use Rattle.sql_model.specs.declared.table.Table.{Table}
use Rattle.sql_laws.proofs.DatabaseLaws.{distinct_in}
use Rattle.run_laws.proofs.BudgetLaw.{going_outcome}
use Rattle.replay_db.specs.inner.Recording.{HasNotEnded}
use Rattle.replay_db.specs.Runs.{Stops}
use Rattle.replay_db.specs.declared.error.EndStop.{EndStop}
use Rattle.replay_db.specs.declared.error.EndStop.TheVariants.{NotEnded, NoMemory}

-- ---- the tables of a world that can be run

pub tables_database : (ts : List Table) → tables_test ts ≡ true → is_database ts ≡ true
tables_database ts met = and-first (is_database ts) (list_all is_described ts) met

pub tables_distinct : (ts : List Table) → tables_test ts ≡ true → have_distinct_columns ts ≡ true
tables_distinct ts met =
    list_all-weaker is_described (λ t. are_distinct t.schema.columns) distinct_in ts
    (and-second (is_database ts) (list_all is_described ts) met)

-- ---- the script that it starts with

pub found_script : (bytes : List ℕ) (file : File) (o : Option File) (script : List Instr) → bytes ≡ file.content → Some file ≡ o
    → script_of bytes ≡ Some script → option_and_then (λ (f : File). script_of f.content) o ≡ Some script
found_script bytes file o script same at is =
    ap (option_and_then (λ (f : File). script_of f.content)) (sym at) ∙ ap script_of (sym same) ∙ is

-- ---- the end

module _ (n : ℕ) (w : World) (script : List Instr) (is : start_script w ≡ Some script) where
  abbrev start : State SqlDatabase
  start = start_state w script

  pub ends_as : (b : Bool) → have_all_ended (run sql_base n [] start).core ≡ b → ends_within n w ≡ b
  ends_as b all = ap (ends_in n [] w) is ∙ all

  pub counts_as : (count : ℕ) → count ≡ steps sql_base n [] start → count ≡ steps_by n [] w
  counts_as count made = made ∙ sym (ap (steps_in n [] w) is)

  pub told_all : (keeps : Bool) (old mid new : List Event) → AppendsEvents keeps old mid (start_events (slice_get w.start 0))
      → AppendsEvents keeps mid new (events sql_base n 1 [] start) → AppendsEvents keeps old new (events_within n w)
  told_all keeps old mid new first later = λ on.
      later on
      ∙ ap (λ (es : List Event). es ++ events sql_base n 1 [] start) (first on)
      ∙ append_assoc old (start_events (slice_get w.start 0)) (events sql_base n 1 [] start)
      ∙ ap (λ (es : List Event). old ++ es) (sym (ap (events_in n [] w) is))

  -- of a run that has ended
  pub yields : (outcome : Outcome) → ends_within n w ≡ true → outcome ≡ outcome_of (run sql_base n [] start).core
      → outcome_within n w ≡ Some outcome
  yields outcome ended same =
      let all : have_all_ended (core_after n [] w script) ≡ true = sym (ap (ends_in n [] w) is) ∙ ended in
      let end : outcome_at (core_after n [] w script) ≡ Some outcome = rw all (ap Some (sym same)) in
      ap (outcome_in n [] w) is ∙ end

pub outcome_stops : (n : ℕ) (w : World) (stop : EndStop) → HasNotEnded n w stop → Stops stop (outcome_within n w)
outcome_stops n w NotEnded going = going_outcome n w going
outcome_stops n w NoMemory going = tt
