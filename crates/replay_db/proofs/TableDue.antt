-- The right table after a step, by a run that stopped at the step and went on.
use Rattle.std.proofs.Common.{◌≡◌, ℕ, ◌+◌, ◌-◌, ◌≤◌, List, [], refl, sym, ap, ◌∙◌, Bool, true, false, arith, inl, inr}
use Rattle.std.specs.Prelude.{Option, Some, None, Result, Ok, Err, nat_lt}
use Rattle.std.proofs.lemmas.Bool.{cases_Bool, ltb-false}
use Rattle.ldv_value.specs.Gives.{GivesOr}
use Rattle.sql_model.specs.Scope.{table_at}
use Rattle.run_model.specs.Run.{run, steps}
use Rattle.run_model.specs.SqlDatabase.{SqlDatabase, sql_base}
use Rattle.run_model.specs.Start.{start_script, start_state}
use Rattle.run_model.specs.State.{State}
use Rattle.run_model.specs.WorldRun.{ends_in, ends_within, steps_in, steps_by}
use Rattle.run_model.specs.Core.{have_all_ended}
use Rattle.run_model.proofs.StepActs.{few_steps}
use Rattle.replay_db.specs.TableAt.{IsDueStop, table_verdict, stored_table, table_after, table_of_run, tables_after}
use Rattle.replay_db.specs.Types.{Instr, Table, World}
use Rattle.replay_db.specs.declared.table.TableStop.{TableStop}
use Rattle.replay_db.specs.declared.table.TableStop.TheVariants.{NoTable, NotEnded, NoStep, NoMemory}
use Rattle.run_laws.proofs.TableSteps.{run_on, steps_on}

-- what is the same as what is due is given
pub gives_due : (r due : Result Table TableStop) → r ≡ due → GivesOr IsDueStop r due
gives_due (Ok table) due same = sym same
gives_due (Err NoTable) due same = sym same
gives_due (Err NotEnded) due same = sym same
gives_due (Err NoStep) due same = sym same
gives_due (Err NoMemory) due same = tt

-- a step that isn't above the number of steps
judged_early : (ended late : Bool) (count step : ℕ) (a b : Result Table TableStop) → nat_lt count step ≡ late
    → (late ≡ false → a ≡ b) → table_verdict ended count step a ≡ table_verdict ended count step b
judged_early ended true count step a b is same = rw is refl
judged_early ended false count step a b is same = ap (table_verdict ended count step) (same refl)

module _ (budget step early : ℕ) (name : List ℕ) (w : World) (script : List Instr) (is : start_script w ≡ Some script)
    (within : early ≤ budget) (whole : step ≤ budget → early ≡ step) where
  abbrev start : State SqlDatabase
  start = start_state w script

  abbrev there : State SqlDatabase
  there = run sql_base early [] start

  split : early + (budget - early) ≡ budget
  split = omega (arith, within)

  -- where it is in the end
  gone_is : run sql_base budget [] start ≡ run sql_base (budget - early) [] there
  gone_is = ap (λ (k : ℕ). run sql_base k [] start) (sym split) ∙ run_on sql_base early (budget - early) start

  pub gone_ended : (ended : Bool) → ended ≡ have_all_ended (run sql_base (budget - early) [] there).core
      → ended ≡ ends_within budget w
  gone_ended ended says =
      says ∙ ap (λ (s : State SqlDatabase). have_all_ended s.core) (sym gone_is) ∙ sym (ap (ends_in budget [] w) is)

  pub gone_steps : (first all : ℕ) → first ≡ steps sql_base early [] start
      → all ≡ first + steps sql_base (budget - early) [] there → all ≡ steps_by budget [] w
  gone_steps first all one both =
      both
      ∙ ap (λ (k : ℕ). k + steps sql_base (budget - early) [] there) one
      ∙ sym (steps_on sql_base early (budget - early) start)
      ∙ ap (λ (k : ℕ). steps sql_base k [] start) split
      ∙ sym (ap (steps_in budget [] w) is)

  table_is : (table : Table) → table_at name there.db.tables ≡ Some table → early ≡ step
      → Ok table ≡ stored_table (table_after step name w)
  table_is table found same =
      ap stored_table
      (sym found
      ∙ ap (λ (k : ℕ). table_at name (run sql_base k [] start).db.tables) same
      ∙ sym (ap (λ (o : Option (List Instr)). table_at name (tables_after step w o)) is))

  pub due_is : (ended : Bool) (count : ℕ) (table : Table) → ended ≡ ends_within budget w → count ≡ steps_by budget [] w
      → table_at name there.db.tables ≡ Some table
      → table_verdict ended count step (Ok table) ≡ table_of_run budget step name w
  due_is ended count table ends counts found =
      (λ i. table_verdict (ends i) (counts i) step (Ok table))
      ∙ judged_early (ends_within budget w) (nat_lt (steps_by budget [] w) step) (steps_by budget [] w) step (Ok table)
      (stored_table (table_after step name w)) refl
      (λ soon. table_is table found
      (whole (omega (arith, ltb-false (steps_by budget [] w) step soon, ap (steps_in budget [] w) is, few_steps sql_base budget [] start))))
