-- If a run has diverged, the process that asked hasn't ended.
use Rattle.std.proofs.Common.{◌≡◌, ℕ, zero, suc, List, [], ◌∷◌, refl, sym, ap, ◌∙◌, subst, true, false, inl, inr}
use Rattle.std.specs.Prelude.{Option, Some, None, is_some, is_none, not, slice_get, ◌&&◌, ◌||◌}
use Rattle.std.specs.List.{list_all}
use Rattle.std.proofs.lemmas.Bool.{cases_Bool}
use Rattle.ldv_value.proofs.Booleans.{and-parts}
use Rattle.run_model.proofs.Undiverged.{quiet_goes, took_goes}
use Rattle.run_model.specs.Core.{Process, Divergence, Core, has_ended, have_all_ended, is_over}
use Rattle.run_model.specs.Database.{Answer, Gives, Diverges, Base}
use Rattle.run_model.specs.Run.{chosen, move, run}
use Rattle.run_model.specs.RunLaw.{MayRun}
use Rattle.run_model.specs.Schedule.{choose, is_waiting}
use Rattle.run_model.specs.State.{State}
use Rattle.run_model.specs.Step.{Ask, next_ask, told, asking}
use Rattle.run_model.proofs.Equations.{run-zero, run-over, run-suc}

-- ---- a step that diverges leaves the processes as they were

module _ {Db : Type 0} (base : Base Db) where
  told_stops : (number : ℕ) (a : Ask) (s : State Db) (answer : Answer Db) → s.core.diverged ≡ None → (d : Divergence)
      → (told number a s answer).state.core.diverged ≡ Some d
      → (told number a s answer).state.core.processes ≡ s.core.processes
  told_stops number a s (Gives reply db lists) none d is =
      let never : None ≡ Some d = sym (took_goes (slice_get s.core.processes number) number a reply s.core ∙ none) ∙ is in
      absurd cc
  told_stops number a s Diverges none d is = refl

  asking_stops : (number : ℕ) (s : State Db) (o : Option Ask) → s.core.diverged ≡ None → (d : Divergence)
      → (asking base number s o).state.core.diverged ≡ Some d
      → (asking base number s o).state.core.processes ≡ s.core.processes
  asking_stops number s None none d is =
      let never : None ≡ Some d = sym (quiet_goes (slice_get s.core.processes number) number s.core ∙ none) ∙ is in
      absurd cc
  asking_stops number s (Some a) none d is = told_stops number a s (base s.db a.question) none d is

  move_stops : (s : State Db) → s.core.diverged ≡ None → (d : Divergence) → (move base None s).state.core.diverged ≡ Some d
      → (move base None s).state.core.processes ≡ s.core.processes
  move_stops s none d is =
      let number : ℕ = choose None s.core in
      asking_stops number (chosen number s) (next_ask number (chosen number s).core) none d is

-- ---- runs

none_status : (o : Option ℕ) → is_none o ≡ true → is_some o ≡ false
none_status None none = refl
none_status (Some status) none = cc

one_going : (ps : List Process) (k : ℕ) (p : Process) → slice_get ps k ≡ Some p → has_ended p ≡ false
    → list_all has_ended ps ≡ false
one_going [] zero p is going = cc
one_going [] (suc k) p is going = cc
one_going (q ∷ ps) zero p is going =
    let same : q ≡ p = cc in
    ap (λ b. b && list_all has_ended ps) (ap has_ended same ∙ going)
one_going (q ∷ ps) (suc k) p is going = elim (cases_Bool (has_ended q)) [
  | inl ended ↦ ap (λ b. b && list_all has_ended ps) ended ∙ one_going ps k p is going
  | inr not_yet ↦ ap (λ b. b && list_all has_ended ps) not_yet
]

may_run_going : (number : ℕ) (c : Core) → MayRun number c → have_all_ended c ≡ false
may_run_going number c may =
    let runs = and-parts (is_none may.0.status) (not (is_waiting (slice_get may.0.script may.0.place) may.0 c.processes)) may.2 in
    one_going c.processes number may.0 may.1 (none_status may.0.status runs.0)

module _ {Db : Type 0} (base : Base Db) where
  -- a process may run while the run isn't over
  abbrev pub NeverStuck : State Db → Type 0
  NeverStuck s = (n : ℕ) → is_over (run base n [] s).core ≡ false
      → MayRun (choose None (run base n [] s).core) (run base n [] s).core

  later_stuck : (s : State Db) → is_over s.core ≡ false → NeverStuck s → NeverStuck (move base None s).state
  later_stuck s going never n =
      subst (λ (t : State Db). is_over t.core ≡ false → MayRun (choose None t.core) t.core)
      (run-suc base n [] s going) (never (suc n))

  at_first : (s : State Db) → is_over s.core ≡ false → NeverStuck s → MayRun (choose None s.core) s.core
  at_first s going never =
      let zeroth : run base 0 [] s ≡ s = run-zero base [] s in
      subst (λ (t : State Db). MayRun (choose None t.core) t.core) zeroth
      (never 0 (ap (λ (t : State Db). is_over t.core) zeroth ∙ going))

  -- the step has diverged, or it hasn't
  stepped_going : (n : ℕ) (s : State Db) → is_over s.core ≡ false → s.core.diverged ≡ None → NeverStuck s
      → ((move base None s).state.core.diverged ≡ None → have_all_ended (run base n [] (move base None s).state).core ≡ false)
      → (o : Option Divergence) → (move base None s).state.core.diverged ≡ o
      → have_all_ended (run base n [] (move base None s).state).core ≡ false
  stepped_going n s going none never rest None nothing = rest nothing
  stepped_going n s going none never rest (Some d) stopped =
      let next : State Db = (move base None s).state in
      let over : is_over next.core ≡ true = ap (λ (o : Option Divergence). is_some o || have_all_ended next.core) stopped in
      ap (λ (t : State Db). have_all_ended t.core) (run-over base n [] next over)
      ∙ ap (λ (ps : List Process). list_all has_ended ps) (move_stops base s none d stopped)
      ∙ may_run_going (choose None s.core) s.core (at_first s going never)

  pub diverged_going : (n : ℕ) (s : State Db) → s.core.diverged ≡ None → NeverStuck s → (d : Divergence)
      → (run base n [] s).core.diverged ≡ Some d → have_all_ended (run base n [] s).core ≡ false
  diverged_going zero s none never d is =
      let wrong : None ≡ Some d = sym (ap (λ (t : State Db). t.core.diverged) (run-zero base [] s) ∙ none) ∙ is in
      absurd cc
  diverged_going (suc n) s none never d is = elim (cases_Bool (is_over s.core)) [
    | inl over ↦
        let wrong : None ≡ Some d = sym (ap (λ (t : State Db). t.core.diverged) (run-over base (suc n) [] s over) ∙ none) ∙ is in
        absurd cc
    | inr going ↦
        let next : State Db = (move base None s).state in
        let here : run base (suc n) [] s ≡ run base n [] next = run-suc base n [] s going in
        let at : (run base n [] next).core.diverged ≡ Some d = sym (ap (λ (t : State Db). t.core.diverged) here) ∙ is in
        ap (λ (t : State Db). have_all_ended t.core) here
        ∙ stepped_going n s going none never
        (λ nothing. diverged_going n next nothing (later_stuck s going never) d at) next.core.diverged refl
  ]
