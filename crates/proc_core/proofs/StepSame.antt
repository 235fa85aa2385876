-- One step of a run, by the results of the machine and of the database.
use Rattle.std.proofs.Common.{◌≡◌, ℕ, ◌+◌, List, [], ◌∷◌, ◌++◌, map, refl, sym, ap, ◌∙◌, subst, Bool}
use Rattle.std.specs.Prelude.{Some, None, ◌||◌, is_some, slice_get, slice_set}
use Rattle.std.proofs.Common.{append_assoc}
use Rattle.sql_model.specs.declared.reply.Reply.{Reply}
use Rattle.proc_core.specs.Types.{Act, Event}
use Rattle.run_model.specs.Core.{Core, have_all_ended, is_over}
use Rattle.run_model.specs.Database.{Question, Lists, Answer, Gives, Diverges, Base, asked_by, asked_act, asked_event, Notes}
use Rattle.run_model.specs.Events.{event_at, events_of_step}
use Rattle.run_model.specs.Schedule.{choose, core_after_choice}
use Rattle.run_model.specs.Run.{chosen, move_of, move}
use Rattle.run_model.specs.State.{State, StepResult}
use Rattle.run_model.specs.Step.{Ask, next_ask, local_step, took, entry_count, ends_at, status_acts, kept, told, asking, step}
use Rattle.run_model.specs.declared.database.Asker.{Asker}
use Rattle.proc_core.specs.declared.instructions.ask.Statement.{Statement}
use Rattle.proc_core.specs.declared.machine.Machine.{Machine}
use Rattle.proc_core.specs.declared.process.SlotProcess.{SlotProcess}
use Rattle.proc_core.specs.declared.error.Stopped.{Stopped}
use Rattle.proc_core.specs.declared.error.Stopped.TheVariants.{Diverged, NoMemory}
use Rattle.proc_core.specs.declared.tell.Who.{Who}
use Rattle.proc_core.specs.inner.SlotAsk.{slot_ask_at, slot_replied}
use Rattle.proc_core.specs.inner.SlotStep.{slot_status_in}
use Rattle.proc_core.specs.Stands.{IsCore, IsState, AppendsEvents}
use Rattle.proc_core.specs.Stops.{asker_held, IsStop, HasStopped}
use Rattle.proc_core.proofs.AskSame.{Asks, asks_nothing, asks_statement, took_core}
use Rattle.proc_core.proofs.Machines.{ends_same}

-- the machine after a reply, for any state that it was in
pub take_core : (m after : Machine) (number cursor : ℕ) (x : Reply) (c : Core) (t : Statement) → IsCore m c → slot_ask_at m number ≡ Some t
    → t.cursor ≡ cursor → (a : Ask) → next_ask number c ≡ Some a → after.codes ≡ m.codes
    → ((r : SlotProcess) → slice_get m.processes.items number ≡ Some r → after.processes.items ≡ slice_set m.processes.items number (slot_replied cursor x r))
    → after.tree ≡ m.tree → after.seed ≡ m.seed → after.last ≡ m.last → after.generator ≡ m.generator → after.asked ≡ m.asked + 1
    → IsCore after (took number a x c)
take_core m after number cursor x c t core says at a asks codes processes tree seed last xs asked =
    let is : Asks m number t c = asks_statement m number t c core says in
    let both : Some is.what ≡ Some a = sym is.said ∙ asks in
    let same : is.what ≡ a = cc in
    let items : after.processes.items ≡ slice_set m.processes.items number (slot_replied t.cursor x is.held) =
    processes is.held is.at_held ∙ ap (λ (k : ℕ). slice_set m.processes.items number (slot_replied k x is.held)) (sym at) in
    subst (λ (b : Ask). IsCore after (took number b x c)) same (took_core m after number t x c core is codes items tree seed last xs asked)

module _ {Db : Type 0} (base : Base Db) where
  -- ---- nothing is asked

  nothing_asked : (m : Machine) (number : ℕ) (db : Db) (s : State Db) → IsState m db s → slot_ask_at m number ≡ None → step base number s ≡ kept number s
  nothing_asked m number db s is none = ap (asking base number s) (asks_nothing m number s.core is.0 none)

  pub quiet_state : (m after : Machine) (number : ℕ) (db : Db) (s : State Db) → slot_ask_at m number ≡ None
      → ((c : Core) → IsCore m c → IsCore after (local_step number c).core) → IsState m db s → IsState after db (step base number s).state
  quiet_state m after number db s none core is =
      subst (λ (st : StepResult Db). IsState after db st.state) (sym (nothing_asked m number db s is none)) (core s.core is.0, is.1)

  pub quiet_told : (m : Machine) (number at : ℕ) (db : Db) (s : State Db) (keeps : Bool) (old new : List Event) → slot_ask_at m number ≡ None
      → ((c : Core) → IsCore m c → AppendsEvents keeps old new (map (event_at at number) ((local_step number c).acts ++ ends_at number (local_step number c).core)))
      → IsState m db s → AppendsEvents keeps old new (events_of_step at (step base number s))
  quiet_told m number at db s keeps old new none told is =
      subst (λ (st : StepResult Db). AppendsEvents keeps old new (events_of_step at st)) (sym (nothing_asked m number db s is none)) (told s.core is.0)

  -- ---- something is

  module _ (m : Machine) (who : Who) (t : Statement) (asker : Asker) (db : Db) (s : State Db) where
    abbrev pub AskedSo : Type 0
    AskedSo = (slot_ask_at m who.number ≡ Some t) × ((r : SlotProcess) → slice_get m.processes.items who.number ≡ Some r → asker ≡ asker_held r who m)

    facts : AskedSo → IsState m db s → Asks m who.number t s.core
    facts so is = asks_statement m who.number t s.core is.0 so.0

    same_question : (so : AskedSo) (is : IsState m db s) → (facts so is).what.question ≡ asked_by asker t.text t.params
    same_question so is =
        let f : Asks m who.number t s.core = facts so is in
        f.question ∙ (λ i. asked_by (sym (so.1 f.held f.at_held) i) t.text t.params)

    by_answer : (so : AskedSo) (is : IsState m db s) (x : Answer Db) → base db (asked_by asker t.text t.params) ≡ x
        → step base who.number s ≡ told who.number (facts so is).what s x
    by_answer so is x answer =
        let f : Asks m who.number t s.core = facts so is in
        ap (asking base who.number s) f.said
        ∙ (λ i. told who.number f.what s (base (sym is.1 i) (same_question so is i)))
        ∙ ap (told who.number f.what s) answer

    pub ask_state : (after : Machine) (x : Reply) (more : Db) (lists : Lists) → AskedSo → base db (asked_by asker t.text t.params) ≡ Gives x more lists
        → ((c : Core) (u : Statement) → IsCore m c → slot_ask_at m who.number ≡ Some u → u.cursor ≡ t.cursor
        → (a : Ask) → next_ask who.number c ≡ Some a → IsCore after (took who.number a x c))
        → IsState m db s → IsState after more (step base who.number s).state
    ask_state after x more lists so answer core is =
        let f : Asks m who.number t s.core = facts so is in
        subst (λ (st : StepResult Db). IsState after more st.state) (sym (by_answer so is (Gives x more lists) answer))
        (core s.core t is.0 so.0 refl f.what f.said, refl)

    pub ask_told : (after : Machine) (x : Reply) (more : Db) (lists : Lists) (keeps : Bool) (old mid new : List Event) → AskedSo
        → base db (asked_by asker t.text t.params) ≡ Gives x more lists
        → ((c : Core) (u : Statement) → IsCore m c → slot_ask_at m who.number ≡ Some u → u.cursor ≡ t.cursor
        → (a : Ask) → next_ask who.number c ≡ Some a → IsCore after (took who.number a x c))
        → Notes keeps old mid asker lists
        → AppendsEvents keeps mid new (map (event_at who.step who.number) (status_acts (slot_status_in after.processes.items who.number)))
        → IsState m db s → AppendsEvents keeps old new (events_of_step who.step (step base who.number s))
    ask_told after x more lists keeps old mid new so answer core notes ends is = λ on.
        let f : Asks m who.number t s.core = facts so is in
        let tail : List Act → List Event = map (event_at who.step who.number) in
        let asked : asked_event asker lists ≡ event_at who.step who.number (asked_act s.core.asked lists) =
        ap (λ (k : Asker). asked_event k lists) (so.1 f.held f.at_held) ∙ ap (λ (n : ℕ). event_at who.step who.number (asked_act n lists)) is.0.asked in
        let ended : status_acts (slot_status_in after.processes.items who.number) ≡ ends_at who.number (took who.number f.what x s.core) =
        ends_same after who.number (took who.number f.what x s.core) (core s.core t is.0 so.0 refl f.what f.said) in
        ends on
        ∙ (λ i. notes on i ++ tail (ended i))
        ∙ append_assoc old (asked_event asker lists ∷ []) (tail (ends_at who.number (took who.number f.what x s.core)))
        ∙ (λ i. old ++ asked i ∷ tail (ends_at who.number (took who.number f.what x s.core)))
        ∙ ap (λ (st : StepResult Db). old ++ events_of_step who.step st) (sym (by_answer so is (Gives x more lists) answer))

    pub ask_stopped : (stop : Stopped) → AskedSo → base db (asked_by asker t.text t.params) ≡ Diverges
        → ((r : SlotProcess) → slice_get m.processes.items who.number ≡ Some r → IsStop stop r)
        → IsState m db s → HasStopped stop (step base who.number s).state
    ask_stopped NoMemory so answer stops is = tt
    ask_stopped (Diverged process index) so answer stops is =
        let f : Asks m who.number t s.core = facts so is in
        let stop : IsStop (Diverged process index) f.held = stops f.held f.at_held in
        let name : f.what.question.process ≡ process.parts = ap (λ (q : Question). q.process) f.question ∙ sym stop.0 in
        let count : entry_count (slice_get s.core.processes who.number) ≡ index = ap entry_count f.at_process ∙ sym f.count ∙ sym stop.1 in
        ap (λ (st : StepResult Db). st.state.core.diverged) (by_answer so is Diverges answer)
        ∙ (λ i. Some (record { process = name i; index = count i }))

  -- ---- the step of the process that was chosen

  pub moved : (m after : Machine) (number : ℕ) (db : Db) (s : State Db)
      → ((c : Core) → IsCore m c → number ≡ choose None c)
      → ((c : Core) → IsCore m c → IsCore after (core_after_choice number c))
      → IsState m db s → (IsState after db (chosen number s)) × (move base None s ≡ step base number (chosen number s))
  moved m after number db s picks core is =
      ((core s.core is.0, is.1), (λ i. move_of base (sym (picks s.core is.0) i) s))

-- where a run stands, it is over where all have ended
pub over_same : (m : Machine) (c : Core) → IsCore m c → is_over c ≡ have_all_ended c
over_same m c core = ap (λ o. is_some o || have_all_ended c) core.going
