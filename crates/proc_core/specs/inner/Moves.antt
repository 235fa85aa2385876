-- How a step of a process changes a run in memory.
use Rattle.std.specs.Prelude.{ℕ, ◌+◌, ◌≤◌, List, ◌++◌, map, Bool, Result, ⊤, OnOk, IfErr}
use Rattle.run_model.specs.Core.{Core}
use Rattle.run_model.specs.Database.{Base}
use Rattle.run_model.specs.Events.{event_at, events_of_step}
use Rattle.run_model.specs.State.{State}
use Rattle.run_model.specs.Step.{ends_at, local_step, step}
use Rattle.proc_core.specs.Types.{Event}
use Rattle.proc_core.specs.declared.error.Stopped.{Stopped}
use Rattle.proc_core.specs.declared.machine.Machine.{Machine}
use Rattle.proc_core.specs.declared.tell.Who.{Who}
use Rattle.proc_core.specs.Stands.{IsCore, IsState, AppendsEvents}
use Rattle.proc_core.specs.Stops.{HasStopped}
use Rattle.proc_core.specs.inner.Counts.{CountsBelow}
use Rattle.proc_core.specs.inner.SlotReady.{Grows}

-- What a step that asks nothing makes of a machine and of the events of a tracer, each before and after it.
pub record MovesLocally {E : Type 0}
    (keeps : Bool) (who : Who) (m after : Machine) (events events_after : List Event) (result : Result ⊤ E)
    : Type 0 where
  pub core : OnOk result ((c : Core) → IsCore m c → IsCore after (local_step who.number c).core)
  -- what it did, and that the process has ended, where it has
  pub told : OnOk result ((c : Core) → IsCore m c
      → AppendsEvents keeps events events_after (map (event_at who.step who.number)
      ((local_step who.number c).acts ++ ends_at who.number (local_step who.number c).core)))
  pub grows : OnOk result (Grows m who.number after)
  pub counted : OnOk result (CountsBelow (who.step + 1) after)

-- What the step of a process makes of a machine, of a database by what it replies, and of the events of a
-- tracer, each before and after the step. Of the database the last step is known, too, at which it was asked.
pub record Moves {Db : Type 0}
    (base : Base Db) (keeps : Bool) (who : Who)
    (m after : Machine) (db db_after : Db) (asked : ℕ) (events events_after : List Event)
    (result : Result ⊤ Stopped)
    : Type 0 where
  -- from any state that the run is in, it has come to the next one
  pub state : OnOk result ((s : State Db) → IsState m db s
      → IsState after db_after (step base who.number s).state)
  pub told : OnOk result ((s : State Db) → IsState m db s
      → AppendsEvents keeps events events_after (events_of_step who.step (step base who.number s)))
  -- where it has stopped, so has the state
  pub diverged : IfErr result (λ stop. (s : State Db) → IsState m db s
      → HasStopped stop (step base who.number s).state)
  pub latest : OnOk result (asked ≤ who.step)
  pub grows : OnOk result (Grows m who.number after)
  pub counted : OnOk result (CountsBelow (who.step + 1) after)
