-- A run that is over stays as it is: with more steps it is the same, has the same events and made as many
-- steps.
use Rattle.std.proofs.Common.{◌≡◌, ℕ, zero, suc, ◌+◌, List, ◌++◌, sym, ap, ◌∙◌, true, inl, inr}
use Rattle.std.proofs.Math.Nat.{suc-add}
use Rattle.std.proofs.lemmas.Bool.{cases_Bool}
use Rattle.run_model.specs.Types.{Event}
use Rattle.run_model.specs.Core.{is_over}
use Rattle.run_model.specs.Database.{Base}
use Rattle.run_model.specs.Events.{events, events_of_step}
use Rattle.run_model.specs.Run.{first_pick, later_picks, move, run, steps}
use Rattle.run_model.specs.State.{State, StepResult}
use Rattle.run_model.proofs.Equations.{run-zero, run-over, run-suc, steps-over, steps-suc, events-over, events-suc}

module _ {Db : Type 0} (base : Base Db) where
  -- the same with some steps more
  pub record IsSettled (n more number : ℕ) (picks : List ℕ) (s : State Db) : Type 0 where
    pub state : run base (n + more) picks s ≡ run base n picks s
    pub told : events base (n + more) number picks s ≡ events base n number picks s
    pub count : steps base (n + more) picks s ≡ steps base n picks s

  settled_over : (n more number : ℕ) (picks : List ℕ) (s : State Db) → is_over s.core ≡ true
      → IsSettled n more number picks s
  settled_over n more number picks s over = record {
    state = run-over base (n + more) picks s over ∙ sym (run-over base n picks s over);
    told = events-over base (n + more) number picks s over ∙ sym (events-over base n number picks s over);
    count = steps-over base (n + more) picks s over ∙ sym (steps-over base n picks s over);
  }

  pub settled : (n more number : ℕ) (picks : List ℕ) (s : State Db) → is_over (run base n picks s).core ≡ true
      → IsSettled n more number picks s
  settled zero more number picks s end =
      settled_over 0 more number picks s (ap (λ (t : State Db). is_over t.core) (sym (run-zero base picks s)) ∙ end)
  settled (suc n) more number picks s end = elim (cases_Bool (is_over s.core)) [
    | inl over ↦ settled_over (suc n) more number picks s over
    | inr going ↦
        let one : StepResult Db = move base (first_pick picks) s in
        let at_end : is_over (run base n (later_picks picks) one.state).core ≡ true =
        ap (λ (t : State Db). is_over t.core) (sym (run-suc base n picks s going)) ∙ end in
        let rest : IsSettled n more (number + 1) (later_picks picks) one.state =
        settled n more (number + 1) (later_picks picks) one.state at_end in
        let all : suc n + more ≡ suc (n + more) = suc-add n more in
        record {
          state =
              ap (λ (k : ℕ). run base k picks s) all
              ∙ run-suc base (n + more) picks s going
              ∙ rest.state
              ∙ sym (run-suc base n picks s going);
          told =
              ap (λ (k : ℕ). events base k number picks s) all
              ∙ events-suc base (n + more) number picks s going
              ∙ ap (λ (es : List Event). events_of_step number one ++ es) rest.told
              ∙ sym (events-suc base n number picks s going);
          count =
              ap (λ (k : ℕ). steps base k picks s) all
              ∙ steps-suc base (n + more) picks s going
              ∙ ap (λ (k : ℕ). 1 + k) rest.count
              ∙ sym (steps-suc base n picks s going);
        }
  ]
