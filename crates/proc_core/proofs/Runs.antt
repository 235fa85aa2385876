-- Runs by the seed: one step more, and up to a budget.
use Rattle.std.proofs.Common.{◌≡◌, ℕ, zero, suc, ◌+◌, ◌-◌, ◌≤◌, List, [], ◌∷◌, ◌++◌, refl, sym, ap, ◌∙◌, subst, true, false, arith, inl, inr, append_assoc, add-one}
use Rattle.std.specs.Prelude.{None}
use Rattle.ldv_value.proofs.Cases.{cases-bool}
use Rattle.proc_core.specs.Types.{Event}
use Rattle.run_model.specs.Core.{is_over}
use Rattle.run_model.specs.Database.{Base}
use Rattle.run_model.specs.Events.{events, events_of_step}
use Rattle.run_model.specs.Run.{move, run, steps}
use Rattle.run_model.specs.State.{State}
use Rattle.run_model.proofs.Equations.{run-zero, run-over, run-suc, steps-zero, steps-over, steps-suc, events-zero, events-over, events-suc}

append_none : (l : List Event) → l ++ [] ≡ l
append_none [] = refl
append_none (e ∷ es) = ap (λ (l : List Event). e ∷ l) (append_none es)

module _ {Db : Type 0} (base : Base Db) where
  abbrev pub after : ℕ → State Db → State Db
  after n s = run base n [] s

  -- where it isn't over after n steps, it is one step further after one more
  run_suc : (n : ℕ) (s : State Db) → is_over (after n s).core ≡ false → after (suc n) s ≡ (move base None (after n s)).state
  run_suc zero s going =
      let none : after 0 s ≡ s = run-zero base [] s in
      let first : is_over s.core ≡ false = subst (λ (t : State Db). is_over t.core ≡ false) none going in
      run-suc base 0 [] s first ∙ run-zero base [] (move base None s).state ∙ ap (λ (t : State Db). (move base None t).state) (sym none)
  run_suc (suc n) s going = elim (cases-bool (is_over s.core)) [
    | inl over ↦
        let no : true ≡ false = sym over ∙ ap (λ (t : State Db). is_over t.core) (sym (run-over base (suc n) [] s over)) ∙ going in
        absurd cc
    | inr first ↦
        let t : State Db = (move base None s).state in
        let same : after (suc n) s ≡ after n t = run-suc base n [] s first in
        let later : is_over (after n t).core ≡ false = subst (λ (u : State Db). is_over u.core ≡ false) same going in
        run-suc base (suc n) [] s first ∙ run_suc n t later ∙ ap (λ (u : State Db). (move base None u).state) (sym same)
  ]

  pub run_more : (n : ℕ) (s : State Db) → is_over (after n s).core ≡ false → after (n + 1) s ≡ (move base None (after n s)).state
  run_more n s going = rw add-one (run_suc n s going)

  -- a run that is over stays
  pub run_stays : (n m : ℕ) (s : State Db) → is_over (after n s).core ≡ true → after (n + m) s ≡ after n s
  run_stays zero m s over =
      let none : after 0 s ≡ s = run-zero base [] s in
      let first : is_over s.core ≡ true = subst (λ (t : State Db). is_over t.core ≡ true) none over in
      let add : 0 + m ≡ m = omega arith in
      ap (λ (k : ℕ). after k s) add ∙ run-over base m [] s first ∙ sym none
  run_stays (suc n) m s over = elim (cases-bool (is_over s.core)) [
    | inl first ↦ run-over base (suc n + m) [] s first ∙ sym (run-over base (suc n) [] s first)
    | inr first ↦
        let t : State Db = (move base None s).state in
        let same : after (suc n) s ≡ after n t = run-suc base n [] s first in
        let add : suc n + m ≡ suc (n + m) = omega arith in
        let later : is_over (after n t).core ≡ true = subst (λ (u : State Db). is_over u.core ≡ true) same over in
        ap (λ (k : ℕ). after k s) add ∙ run-suc base (n + m) [] s first ∙ run_stays n m t later ∙ sym same
  ]

  pub run_all : (n budget : ℕ) (s : State Db) → n ≤ budget → is_over (after n s).core ≡ true → after budget s ≡ after n s
  run_all n budget s within over =
      let all : n + (budget - n) ≡ budget = omega (arith, within) in
      ap (λ (k : ℕ). after k s) (sym all) ∙ run_stays n (budget - n) s over

  -- ---- events

  abbrev pub seen_after : ℕ → ℕ → State Db → List Event
  seen_after n number s = events base n number [] s

  events_suc : (n number : ℕ) (s : State Db) → is_over (after n s).core ≡ false
      → seen_after (suc n) number s ≡ seen_after n number s ++ events_of_step (number + n) (move base None (after n s))
  events_suc zero number s going =
      let none : after 0 s ≡ s = run-zero base [] s in
      let first : is_over s.core ≡ false = subst (λ (t : State Db). is_over t.core ≡ false) none going in
      let at : number ≡ number + 0 = omega arith in
      events-suc base 0 number [] s first
      ∙ ap (λ (l : List Event). events_of_step number (move base None s) ++ l) (events-zero base (number + 1) [] (move base None s).state)
      ∙ append_none (events_of_step number (move base None s))
      ∙ (λ i. events_of_step (at i) (move base None (sym none i)))
      ∙ ap (λ (l : List Event). l ++ events_of_step (number + 0) (move base None (after 0 s))) (sym (events-zero base number [] s))
  events_suc (suc n) number s going = elim (cases-bool (is_over s.core)) [
    | inl over ↦
        let no : true ≡ false = sym over ∙ ap (λ (t : State Db). is_over t.core) (sym (run-over base (suc n) [] s over)) ∙ going in
        absurd cc
    | inr first ↦
        let t : State Db = (move base None s).state in
        let front : List Event = events_of_step number (move base None s) in
        let same : after (suc n) s ≡ after n t = run-suc base n [] s first in
        let later : is_over (after n t).core ≡ false = subst (λ (u : State Db). is_over u.core ≡ false) same going in
        let at : number + 1 + n ≡ number + suc n = omega arith in
        events-suc base (suc n) number [] s first
        ∙ ap (λ (l : List Event). front ++ l) (events_suc n (number + 1) t later)
        ∙ sym (append_assoc front (seen_after n (number + 1) t) (events_of_step (number + 1 + n) (move base None (after n t))))
        ∙ (λ i. sym (events-suc base n number [] s first) i ++ events_of_step (at i) (move base None (sym same i)))
  ]

  pub events_more : (n number : ℕ) (s : State Db) → is_over (after n s).core ≡ false
      → seen_after (n + 1) number s ≡ seen_after n number s ++ events_of_step (number + n) (move base None (after n s))
  events_more n number s going = rw add-one (events_suc n number s going)

  pub events_stay : (n m number : ℕ) (s : State Db) → is_over (after n s).core ≡ true → seen_after (n + m) number s ≡ seen_after n number s
  events_stay zero m number s over =
      let none : after 0 s ≡ s = run-zero base [] s in
      let first : is_over s.core ≡ true = subst (λ (t : State Db). is_over t.core ≡ true) none over in
      let add : 0 + m ≡ m = omega arith in
      ap (λ (k : ℕ). seen_after k number s) add ∙ events-over base m number [] s first ∙ sym (events-zero base number [] s)
  events_stay (suc n) m number s over = elim (cases-bool (is_over s.core)) [
    | inl first ↦ events-over base (suc n + m) number [] s first ∙ sym (events-over base (suc n) number [] s first)
    | inr first ↦
        let t : State Db = (move base None s).state in
        let front : List Event = events_of_step number (move base None s) in
        let same : after (suc n) s ≡ after n t = run-suc base n [] s first in
        let add : suc n + m ≡ suc (n + m) = omega arith in
        let later : is_over (after n t).core ≡ true = subst (λ (u : State Db). is_over u.core ≡ true) same over in
        ap (λ (k : ℕ). seen_after k number s) add ∙ events-suc base (n + m) number [] s first
        ∙ ap (λ (l : List Event). front ++ l) (events_stay n m (number + 1) t later) ∙ sym (events-suc base n number [] s first)
  ]

  pub events_all : (n budget number : ℕ) (s : State Db) → n ≤ budget → is_over (after n s).core ≡ true
      → seen_after budget number s ≡ seen_after n number s
  events_all n budget number s within over =
      let all : n + (budget - n) ≡ budget = omega (arith, within) in
      ap (λ (k : ℕ). seen_after k number s) (sym all) ∙ events_stay n (budget - n) number s over

  -- ---- how many steps are made

  abbrev pub made_after : ℕ → State Db → ℕ
  made_after n s = steps base n [] s

  steps_suc : (n : ℕ) (s : State Db) → is_over (after n s).core ≡ false → made_after (suc n) s ≡ suc (made_after n s)
  steps_suc zero s going =
      let none : after 0 s ≡ s = run-zero base [] s in
      let first : is_over s.core ≡ false = subst (λ (t : State Db). is_over t.core ≡ false) none going in
      let zeros : 1 + 0 ≡ suc 0 = refl in
      steps-suc base 0 [] s first ∙ ap (λ (k : ℕ). 1 + k) (steps-zero base [] (move base None s).state) ∙ zeros ∙ ap suc (sym (steps-zero base [] s))
  steps_suc (suc n) s going = elim (cases-bool (is_over s.core)) [
    | inl over ↦
        let no : true ≡ false = sym over ∙ ap (λ (t : State Db). is_over t.core) (sym (run-over base (suc n) [] s over)) ∙ going in
        absurd cc
    | inr first ↦
        let t : State Db = (move base None s).state in
        let same : after (suc n) s ≡ after n t = run-suc base n [] s first in
        let later : is_over (after n t).core ≡ false = subst (λ (u : State Db). is_over u.core ≡ false) same going in
        let add : 1 + suc (made_after n t) ≡ suc (1 + made_after n t) = omega arith in
        steps-suc base (suc n) [] s first ∙ ap (λ (k : ℕ). 1 + k) (steps_suc n t later) ∙ add ∙ ap suc (sym (steps-suc base n [] s first))
  ]

  -- where it isn't over after n steps, it made them all
  pub made_all : (n : ℕ) (s : State Db) → is_over (after n s).core ≡ false → made_after n s ≡ n
  made_all zero s going = steps-zero base [] s
  made_all (suc n) s going = elim (cases-bool (is_over s.core)) [
    | inl over ↦
        let no : true ≡ false = sym over ∙ ap (λ (t : State Db). is_over t.core) (sym (run-over base (suc n) [] s over)) ∙ going in
        absurd cc
    | inr first ↦
        let t : State Db = (move base None s).state in
        let same : after (suc n) s ≡ after n t = run-suc base n [] s first in
        let later : is_over (after n t).core ≡ false = subst (λ (u : State Db). is_over u.core ≡ false) same going in
        steps-suc base n [] s first ∙ (omega (arith, made_all n t later))
  ]

  pub steps_stay : (n m : ℕ) (s : State Db) → is_over (after n s).core ≡ true → made_after (n + m) s ≡ made_after n s
  steps_stay zero m s over =
      let none : after 0 s ≡ s = run-zero base [] s in
      let first : is_over s.core ≡ true = subst (λ (t : State Db). is_over t.core ≡ true) none over in
      let add : 0 + m ≡ m = omega arith in
      ap (λ (k : ℕ). made_after k s) add ∙ steps-over base m [] s first ∙ sym (steps-zero base [] s)
  steps_stay (suc n) m s over = elim (cases-bool (is_over s.core)) [
    | inl first ↦ steps-over base (suc n + m) [] s first ∙ sym (steps-over base (suc n) [] s first)
    | inr first ↦
        let t : State Db = (move base None s).state in
        let same : after (suc n) s ≡ after n t = run-suc base n [] s first in
        let add : suc n + m ≡ suc (n + m) = omega arith in
        let later : is_over (after n t).core ≡ true = subst (λ (u : State Db). is_over u.core ≡ true) same over in
        ap (λ (k : ℕ). made_after k s) add ∙ steps-suc base (n + m) [] s first
        ∙ ap (λ (k : ℕ). 1 + k) (steps_stay n m t later) ∙ sym (steps-suc base n [] s first)
  ]

  pub steps_all : (n budget : ℕ) (s : State Db) → n ≤ budget → is_over (after n s).core ≡ true → made_after budget s ≡ made_after n s
  steps_all n budget s within over =
      let all : n + (budget - n) ≡ budget = omega (arith, within) in
      ap (λ (k : ℕ). made_after k s) (sym all) ∙ steps_stay n (budget - n) s over

  pub steps_more : (n : ℕ) (s : State Db) → is_over (after n s).core ≡ false → made_after (n + 1) s ≡ made_after n s + 1
  steps_more n s going = rw add-one (rw add-one (steps_suc n s going))
