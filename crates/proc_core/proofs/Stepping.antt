-- The step of the chosen process, from any state that the machine represents.
use Rattle.std.proofs.Common.{◌≡◌, ℕ, ◌<◌, List, [], ◌++◌, length, refl, sym, ap, ◌∙◌, subst, Bool, true, false}
use Rattle.std.specs.Prelude.{Option, Some, None, slice_get}
use Rattle.std.proofs.lemmas.Option.{slice_get_within}
use Rattle.ldv_value.proofs.Lists.{append-nil}
use Rattle.script_code.specs.declared.code.Code.{Code}
use Rattle.script_code.specs.declared.code.SlotInstr.{SlotInstr}
use Rattle.script_code.specs.declared.code.SlotInstr.TheVariants.{Own, OnFiles, Spawn, Wait, Sql}
use Rattle.proc_core.specs.Flags.{runnable_flags}
use Rattle.proc_core.specs.Types.{Event}
use Rattle.run_model.specs.Core.{Core}
use Rattle.run_model.specs.Database.{Base}
use Rattle.run_model.specs.Events.{events, events_of_step}
use Rattle.run_model.specs.Run.{chosen, move, run}
use Rattle.run_model.specs.Schedule.{choose, core_after_choice}
use Rattle.run_model.specs.State.{State, StepResult}
use Rattle.run_model.specs.Step.{step}
use Rattle.run_model.proofs.Equations.{run-zero, events-zero}
use Rattle.proc_core.specs.declared.instructions.ask.Statement.{Statement}
use Rattle.proc_core.specs.declared.machine.Machine.{Machine}
use Rattle.proc_core.specs.declared.process.SlotProcess.{SlotProcess}
use Rattle.proc_core.specs.declared.error.Stopped.{Stopped}
use Rattle.proc_core.specs.Running.{Stands, has_ended}
use Rattle.proc_core.specs.inner.SlotAsk.{slot_ask, slot_ask_in, slot_ask_at}
use Rattle.proc_core.specs.inner.SlotReady.{Grows, refreshed}
use Rattle.proc_core.specs.inner.SlotStep.{IsLocal, next_slot_instr, slot_is_local}
use Rattle.proc_core.specs.Stands.{IsCore, IsState, AppendsEvents}
use Rattle.proc_core.specs.Stops.{HasStopped}
use Rattle.proc_core.proofs.Advances.{advanced, moved_step, scheduled_state}

-- ---- who asks is there

within_by : (m : Machine) (number : ℕ) (t : Statement) (o : Option SlotProcess) → slice_get m.processes.items number ≡ o
    → slot_ask_in m.codes o ≡ Some t → number < length m.processes.items
within_by m number t None at is = absurd cc
within_by m number t (Some r) at is = slice_get_within m.processes.items number r at

pub asked_within : (m : Machine) (number : ℕ) (t : Statement) → slot_ask_at m number ≡ Some t → number < length m.processes.items
asked_within m number t is = within_by m number t (slice_get m.processes.items number) refl is

-- ---- a step that asks nothing and makes no process, by its instruction

local_by : (o : Option SlotInstr) → slot_is_local o ≡ true → IsLocal o
local_by None is = tt
local_by (Some (Own o)) is = tt
local_by (Some (OnFiles f)) is = tt
local_by (Some (Spawn child path arguments place)) is = absurd cc
local_by (Some (Wait to child)) is = tt
local_by (Some (Sql cursor text params)) is = tt

asks_by : (o : Option SlotInstr) (r : SlotProcess) → slot_is_local o ≡ true → slot_ask o r ≡ None
asks_by None r is = refl
asks_by (Some (Own o)) r is = refl
asks_by (Some (OnFiles f)) r is = refl
asks_by (Some (Spawn child path arguments place)) r is = refl
asks_by (Some (Wait to child)) r is = refl
asks_by (Some (Sql cursor text params)) r is = absurd cc

asks_in : (codes : List Code) (o : Option SlotProcess) → slot_is_local (next_slot_instr codes o) ≡ true → slot_ask_in codes o ≡ None
asks_in codes None is = refl
asks_in codes (Some r) is = asks_by (next_slot_instr codes (Some r)) r is

module _ (m : Machine) (number : ℕ) (b : Bool) (is : b ≡ slot_is_local (next_slot_instr m.codes (slice_get m.processes.items number))) (so : b ≡ true) where
  pub local_next : IsLocal (next_slot_instr m.codes (slice_get m.processes.items number))
  local_next = local_by (next_slot_instr m.codes (slice_get m.processes.items number)) (sym is ∙ so)

  pub nothing_asked_next : slot_ask_at m number ≡ None
  nothing_asked_next = asks_in m.codes (slice_get m.processes.items number) (sym is ∙ so)

-- ---- one step of a run

module _ {Db : Type 0} (base : Base Db) (m ready : Machine) (number : ℕ) (db : Db) (s : State Db) (going : has_ended m ≡ false)
    (is : Stands m db s) (picks : (c : Core) → IsCore m c → m.ready.flags ≡ runnable_flags c.processes → number ≡ choose None c)
    (core : (c : Core) → IsCore m c → IsCore ready (core_after_choice number c))
    (same_ready : ready.ready ≡ m.ready) (same_parents : ready.parents ≡ m.parents) where
  here : IsState ready db (chosen number s)
  here = scheduled_state base m ready m m number db db s going is picks core same_ready same_parents

  same : move base None s ≡ step base number (chosen number s)
  same = moved_step base m ready m m number db db s going is picks core same_ready same_parents

  pub Stands-move : (after last : Machine) (more : Db)
      → ((t : State Db) → IsState ready db t → IsState after more (step base number t).state) → Grows ready number after
      → last.ready.flags ≡ refreshed after.codes after.processes.items after.parents number after.ready.flags
      → last ≡ record after { ready = last.ready } → Stands last more (move base None s).state
  Stands-move after last more stands grows flags others =
      advanced base m ready after last number db more s going is picks core same_ready same_parents (stands (chosen number s) here) grows flags others

  pub tells : (at : ℕ) (keeps : Bool) (old new : List Event)
      → ((t : State Db) → IsState ready db t → AppendsEvents keeps old new (events_of_step at (step base number t)))
      → AppendsEvents keeps old new (events_of_step at (move base None s))
  tells at keeps old new told =
      subst (λ (st : StepResult Db). AppendsEvents keeps old new (events_of_step at st)) (sym same) (told (chosen number s) here)

  pub stops : (stop : Stopped) → ((t : State Db) → IsState ready db t → HasStopped stop (step base number t).state)
      → HasStopped stop (move base None s).state
  stops stop stopped = subst (λ (st : StepResult Db). HasStopped stop st.state) (sym same) (stopped (chosen number s) here)

-- ---- no step

module _ {Db : Type 0} (base : Base Db) (m : Machine) (db : Db) where
  pub first_state : (s : State Db) → Stands m db s → Stands m db (run base 0 [] s)
  first_state s from = subst (Stands m db) (sym (run-zero base [] s)) from

  pub first_told : (keeps : Bool) (old : List Event) (s : State Db) → Stands m db s → AppendsEvents keeps old old (events base 0 1 [] s)
  first_told keeps old s from = λ _. sym (ap (λ (l : List Event). old ++ l) (events-zero base 1 [] s) ∙ append-nil old)
