-- The kinds of steps of a run, and the events of each kind.
use Rattle.std.proofs.Common.{◌≡◌, ℕ, ◌+◌, ◌<◌, List, ◌∷◌, ◌++◌, length, refl, sym, ap, ◌∙◌, subst, Bool, true, false}
use Rattle.std.specs.Prelude.{Option, Some, None, map, slice_get, is_some, ◌||◌}
use Rattle.run_laws.specs.Types.{Reply, Statement, Act, Event}
use Rattle.sql_model.specs.Statements.{reply_of}
use Rattle.sql_model.specs.Texts.{statement_of}
use Rattle.run_model.specs.Core.{Process, Core, have_all_ended, is_over}
use Rattle.run_model.specs.Events.{event_at, events_of_step}
use Rattle.run_model.specs.Run.{chosen, move_of, move}
use Rattle.run_model.specs.RunLaw.{MayRun}
use Rattle.run_model.specs.Schedule.{choose}
use Rattle.run_model.specs.SqlDatabase.{SqlDatabase, db_after, lists_of, sql_base}
use Rattle.run_model.specs.State.{State, StepResult}
use Rattle.run_model.specs.Step.{Ask, Effect, local_step, took, next_ask, ends_at, asked_act, asking}
use Rattle.run_model.proofs.NeverStuck.{Ordered, found_below, chosen_runs}
use Rattle.run_laws.proofs.TraceState.{GoodList, PlainActs, made_by, plain_append, made_append, QuietStep, quiet_step, TookStep, took_step, ends_plain}

first_false : (a b : Bool) → (a || b) ≡ false → b ≡ false
first_false true b is = cc
first_false false b is = is

-- what a step may be: it asks a statement or none
pub data Kind : Type 0 where
  Quiet : Kind
  Asks : Option Statement → Kind

-- the acts that aren't a question come after it
abbrev pub acts_of : Kind → ℕ → SqlDatabase → List Act → List Act
acts_of Quiet asked db plain = plain
acts_of (Asks statement) asked db plain = asked_act asked (lists_of statement db) ∷ plain

abbrev pub asked_then : Kind → ℕ → ℕ
asked_then Quiet asked = asked
asked_then (Asks statement) asked = asked + 1

abbrev pub db_then : Kind → SqlDatabase → SqlDatabase
db_then Quiet db = db
db_then (Asks statement) db = db_after statement db

abbrev pub made_in : State SqlDatabase → ℕ
made_in s = length s.core.processes

pub record StepOf (s : State SqlDatabase) (m : StepResult SqlDatabase) : Type 0 where
  pub kind : Kind
  pub plain : List Act
  pub process : m.process < made_in s
  pub good : GoodList m.state.core.processes
  pub rules : PlainActs (made_in s) plain
  pub made : made_in m.state ≡ made_by (made_in s) plain
  pub asked : m.state.core.asked ≡ asked_then kind s.core.asked
  pub db : m.state.db ≡ db_then kind s.db
  pub acts : m.acts ≡ acts_of kind s.core.asked s.db plain

asking_step : (number : ℕ) (p : Process) (s : State SqlDatabase) → slice_get s.core.processes number ≡ Some p
    → GoodList s.core.processes → (o : Option Ask) → StepOf s (asking sql_base number s o)
asking_step number p s is good None =
    let e : Effect = local_step number s.core in
    let q : QuietStep s.core e = quiet_step number p s.core is good in
    let ends = ends_plain number e.core q.good in
    let last : PlainActs (made_by (made_in s) e.acts) (ends_at number e.core) =
    subst (λ (m : ℕ). PlainActs m (ends_at number e.core)) q.made ends.0 in
    let count : made_by (made_in s) (e.acts ++ ends_at number e.core) ≡ length e.core.processes =
    made_append (made_in s) e.acts (ends_at number e.core)
    ∙ ap (λ (m : ℕ). made_by m (ends_at number e.core)) (sym q.made)
    ∙ ends.1 in
    record {
      kind = Quiet;
      plain = e.acts ++ ends_at number e.core;
      process = found_below s.core.processes number p is;
      good = q.good;
      rules = plain_append (made_in s) e.acts (ends_at number e.core) q.acts last;
      made = sym count;
      asked = q.asked;
      db = refl;
      acts = refl;
    }
asking_step number p s is good (Some a) =
    let statement : Option Statement = statement_of a.question.text a.question.params in
    let reply : Reply = reply_of statement s.db.tables in
    let new : Core = took number a reply s.core in
    let t : TookStep s.core new = took_step number p a reply s.core is good in
    let ends = ends_plain number new t.good in
    record {
      kind = Asks statement;
      plain = ends_at number new;
      process = found_below s.core.processes number p is;
      good = t.good;
      rules = subst (λ (m : ℕ). PlainActs m (ends_at number new)) t.made ends.0;
      made = sym (ap (λ (m : ℕ). made_by m (ends_at number new)) (sym t.made) ∙ ends.1);
      asked = t.asked;
      db = refl;
      acts = refl;
    }

-- of the process that is chosen
chosen_step : (number : ℕ) (p : Process) (s : State SqlDatabase) → slice_get s.core.processes number ≡ Some p
    → GoodList s.core.processes → StepOf s (move_of sql_base number s)
chosen_step number p s is good =
    let m : StepOf (chosen number s) (move_of sql_base number s) =
    asking_step number p (chosen number s) is good (next_ask number (chosen number s).core) in
    record {
      kind = m.kind;
      plain = m.plain;
      process = m.process;
      good = m.good;
      rules = m.rules;
      made = m.made;
      asked = m.asked;
      db = m.db;
      acts = m.acts;
    }

pub move_step : (pick : Option ℕ) (s : State SqlDatabase) → GoodList s.core.processes → Ordered s.core → is_over s.core ≡ false
    → StepOf s (move sql_base pick s)
move_step pick s good ordered going =
    let may : MayRun (choose pick s.core) s.core =
    chosen_runs pick s.core ordered (first_false (is_some s.core.diverged) (have_all_ended s.core) going) in
    chosen_step (choose pick s.core) may.0 s may.1 good

abbrev pub events_by_kind : Kind → ℕ → ℕ → ℕ → SqlDatabase → List Act → List Event
events_by_kind kind number process asked db plain = map (event_at number process) (acts_of kind asked db plain)

pub step_events : (number : ℕ) (s : State SqlDatabase) (m : StepResult SqlDatabase) (of : StepOf s m)
    → events_of_step number m ≡ events_by_kind of.kind number m.process s.core.asked s.db of.plain
step_events number s m of = λ j. map (event_at number m.process) (of.acts j)
