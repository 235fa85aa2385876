-- A run after one step more, with the set of processes that may run.
use Rattle.std.proofs.Common.{◌≡◌, ℕ, zero, suc, ◌+◌, ◌≤◌, List, [], ◌∷◌, length, refl, sym, ap, ◌∙◌, subst, Bool, true, false, arith, inl, inr}
use Rattle.std.specs.Prelude.{Option, Some, None, slice_get, is_none, is_some, not, ◌&&◌, ◌||◌, ◌==◌}
use Rattle.std.specs.List.{list_all}
use Rattle.std.proofs.lemmas.Bool.{cases_Bool, and_parts, ne_eqb}
use Rattle.proc_core.specs.Flags.{runnable_flags}
use Rattle.ready_set.specs.Ready.{ReadyView, numbers}
use Rattle.proc_core.proofs.FlagLaws.{flags_runnable}
use Rattle.run_model.specs.Core.{Process, Core, have_all_ended, is_over, has_ended as process_ended}
use Rattle.run_model.specs.Database.{Base}
use Rattle.run_model.specs.Run.{chosen, move, run}
use Rattle.run_model.specs.RunLaw.{MayRun}
use Rattle.run_model.specs.Schedule.{is_waiting, is_runnable, runnable_from, runnable_processes, choose, core_after_choice}
use Rattle.run_model.specs.State.{State, StepResult}
use Rattle.run_model.specs.Step.{step}
use Rattle.run_model.proofs.Equations.{run-zero, run-over, run-suc}
use Rattle.run_model.proofs.NeverStuck.{Ordered, chosen_runs, move_ordered}
use Rattle.proc_core.specs.declared.machine.Machine.{Machine}
use Rattle.proc_core.specs.Running.{Stands, has_ended, AreKin, IsReady}
use Rattle.proc_core.specs.inner.SlotReady.{Grows, refreshed}
use Rattle.proc_core.specs.Stands.{IsCore, IsState}
use Rattle.proc_core.proofs.Moving.{step_moved, may_run_going}
use Rattle.proc_core.proofs.Readiness.{kin_ordered, ready_runs, next_ready}

-- ---- whether it has ended

ended_rests : (status : Option ℕ) (rest : Bool) → is_some status ≡ true → (is_none status && rest) ≡ false
ended_rests None rest some = absurd cc
ended_rests (Some status) rest some = refl

-- where all have ended none may run
none_runs : (all ps : List Process) (n : ℕ) → list_all process_ended ps ≡ true → runnable_from n all ps ≡ []
none_runs all [] n over = refl
none_runs all (p ∷ ps) n over =
    let parts = and_parts (process_ended p) (list_all process_ended ps) over in
    let rests : is_runnable all p ≡ false = ended_rests p.status (not (is_waiting (slice_get p.script p.place) p all)) parts.0 in
    rw rests (none_runs all ps (n + 1) parts.1)

-- a process that may run is among those that may
one_runs : (all ps : List Process) (n k : ℕ) (p : Process) → slice_get ps k ≡ Some p → is_runnable all p ≡ true
    → 1 ≤ length (runnable_from n all ps)
one_runs all [] n k p at runs = absurd cc
one_runs all (q ∷ ps) n zero p at runs =
    let same : q ≡ p = cc in
    let first : is_runnable all q ≡ true = ap (is_runnable all) same ∙ runs in
    rw first (omega arith)
one_runs all (q ∷ ps) n (suc k) p at runs =
    let later : 1 ≤ length (runnable_from (n + 1) all ps) = one_runs all ps (n + 1) k p at runs in
    elim (cases_Bool (is_runnable all q)) [
      | inl first ↦ rw first (omega (arith, later))
      | inr rests ↦ rw rests later
    ]

is_empty-runnable : (c : Core) → Ordered c → (length (runnable_processes c) == 0) ≡ have_all_ended c
is_empty-runnable c ordered = elim (cases_Bool (have_all_ended c)) [
  | inl over ↦ ap (λ (ns : List ℕ). length ns == 0) (none_runs c.processes c.processes 0 over) ∙ sym over
  | inr going ↦
      let may : MayRun (choose None c) c = chosen_runs None c ordered going in
      let some : 1 ≤ length (runnable_processes c) = one_runs c.processes c.processes 0 (choose None c) may.0 may.1 may.2 in
      ne_eqb (length (runnable_processes c)) 0 (λ none. omega (arith, some, none)) ∙ sym going
]

-- no process may run exactly where all have ended
pub all_ended_same : (m : Machine) (c : Core) → IsReady m c → has_ended m ≡ have_all_ended c
all_ended_same m c ready =
    let same : numbers m.ready.flags ≡ runnable_processes c = ap numbers ready.flags ∙ flags_runnable c in
    ap (λ (ns : List ℕ). length ns == 0) same ∙ is_empty-runnable c (kin_ordered m.parents c ready.kin)

pub chosen_may_run : {Db : Type 0} (m : Machine) (db : Db) (s : State Db) → has_ended m ≡ false → Stands m db s
    → MayRun (choose None s.core) s.core
chosen_may_run m db s going is = ready_runs m s.core is.ready (sym (all_ended_same m s.core is.ready) ∙ going)

-- ---- one step more

-- the same but for the set
same_core : (a b : Machine) (c : Core) → b ≡ record a { ready = b.ready } → IsCore a c → IsCore b c
same_core a b c is core =
    subst (λ (m : Machine). IsCore m c) (sym is) (record {
      files = core.files;
      processes = core.processes;
      seed = core.seed;
      last = core.last;
      generator = core.generator;
      asked = core.asked;
      going = core.going;
    })

module _ {Db : Type 0} (base : Base Db) (m ready after last : Machine) (number : ℕ) (db db1 : Db) (s : State Db)
    (going : has_ended m ≡ false) (is : Stands m db s)
    (picks : (c : Core) → IsCore m c → m.ready.flags ≡ runnable_flags c.processes → number ≡ choose None c)
    (core : (c : Core) → IsCore m c → IsCore ready (core_after_choice number c))
    (same_ready : ready.ready ≡ m.ready) (same_parents : ready.parents ≡ m.parents) where
  pub number_is : number ≡ choose None s.core
  number_is = picks s.core is.state.0 is.ready.flags

  pub scheduled_state : IsState ready db (chosen number s)
  scheduled_state = (core s.core is.state.0, is.state.1)

  pub moved_step : move base None s ≡ step base number (chosen number s)
  moved_step = λ i. step base (sym number_is i) (chosen (sym number_is i) s)

  scheduled_ready : IsReady ready (core_after_choice number s.core)
  scheduled_ready = record {
    flags = ap (λ (set : ReadyView). set.flags) same_ready ∙ is.ready.flags;
    count = ap length same_parents ∙ is.ready.count;
    kin = subst (λ (l : List ℕ). AreKin l s.core.processes) (sym same_parents) is.ready.kin;
  }

  pub advanced : IsState after db1 (step base number (chosen number s)).state → Grows ready number after
      → last.ready.flags ≡ refreshed after.codes after.processes.items after.parents number after.ready.flags
      → last ≡ record after { ready = last.ready }
      → Stands last db1 (move base None s).state
  advanced stands grows flags others =
      let may : MayRun number s.core = subst (λ (n : ℕ). MayRun n s.core) (sym number_is) (chosen_may_run m db s going is) in
      let p : Process = may.0 in
      let at : slice_get (core_after_choice number s.core).processes number ≡ Some p = may.1 in
      subst (λ (t : StepResult Db). Stands last db1 t.state) (sym moved_step) (record {
        state = (same_core after last (step base number (chosen number s)).state.core others stands.0, stands.1);
        ready = next_ready ready after last number (core_after_choice number s.core) (step base number (chosen number s)).state.core p
            scheduled_state.0 scheduled_ready at (may_run_going number s.core may) stands.0 grows flags others
            (step_moved base number p (chosen number s) at);
      })

-- ---- never stuck

pub first_false : (a b : Bool) → (a || b) ≡ false → b ≡ false
first_false true b is = cc
first_false false b is = is

module _ {Db : Type 0} (base : Base Db) where
  ordered_after : (n : ℕ) (s : State Db) → Ordered s.core → Ordered (run base n [] s).core
  ordered_after zero s ordered = subst (λ (t : State Db). Ordered t.core) (sym (run-zero base [] s)) ordered
  ordered_after (suc n) s ordered = elim (cases_Bool (is_over s.core)) [
    | inl over ↦ subst (λ (t : State Db). Ordered t.core) (sym (run-over base (suc n) [] s over)) ordered
    | inr going ↦
        subst (λ (t : State Db). Ordered t.core) (sym (run-suc base n [] s going))
        (ordered_after n (move base None s).state (move_ordered base (choose None s.core) s ordered))
  ]

  -- after any steps of a run that stands in a state, while a process hasn't ended, the chosen one may run
  pub never_stuck_from : (m : Machine) (db : Db) (s : State Db) → Stands m db s → (n : ℕ) → is_over (run base n [] s).core ≡ false
      → MayRun (choose None (run base n [] s).core) (run base n [] s).core
  never_stuck_from m db s is n going =
      let d : Core = (run base n [] s).core in
      chosen_runs None d (ordered_after n s (kin_ordered m.parents s.core is.ready.kin)) (first_false (is_some d.diverged) (have_all_ended d) going)
