-- The number of steps of a run is at most its budget, and a budget beyond the steps made changes nothing.
use Rattle.std.proofs.Common.{◌≡◌, ℕ, zero, suc, ◌+◌, ◌≤◌, List, sym, ap, ◌∙◌, subst, arith, inl, inr}
use Rattle.std.proofs.Math.Nat.{suc-add}
use Rattle.std.proofs.lemmas.Bool.{cases_Bool}
use Rattle.ldv_value.proofs.Cases.{cases-option}
use Rattle.run_laws.specs.Types.{World}
use Rattle.run_model.specs.Core.{is_over}
use Rattle.run_model.specs.Database.{Base}
use Rattle.run_model.specs.Run.{first_pick, later_picks, move, run, steps}
use Rattle.run_model.specs.SqlDatabase.{sql_base}
use Rattle.run_model.specs.Start.{start_script, start_state}
use Rattle.run_model.specs.State.{State, StepResult}
use Rattle.run_model.specs.WorldRun.{steps_in, steps_by}
use Rattle.run_model.proofs.Equations.{run-zero, run-over, run-suc, steps-suc}
use Rattle.run_model.proofs.StepActs.{few_steps}

module _ {Db : Type 0} (base : Base Db) where
  no_step : (n : ℕ) (picks : List ℕ) (s : State Db) → steps base n picks s ≤ 0 → run base n picks s ≡ s
  no_step zero picks s none = run-zero base picks s
  no_step (suc n) picks s none = elim (cases_Bool (is_over s.core)) [
    | inl over ↦ run-over base (suc n) picks s over
    | inr going ↦ absurd (omega (arith, none, steps-suc base n picks s going))
  ]

  -- a run that makes no more than some steps is where it was after them
  pub no_more : (n more : ℕ) (picks : List ℕ) (s : State Db) → steps base (n + more) picks s ≤ n
      → run base (n + more) picks s ≡ run base n picks s
  no_more zero more picks s few =
      let all : 0 + more ≡ more = omega arith in
      ap (λ (k : ℕ). run base k picks s) all
      ∙ no_step more picks s (subst (λ (k : ℕ). steps base k picks s ≤ 0) all few)
      ∙ sym (run-zero base picks s)
  no_more (suc n) more picks s few = elim (cases_Bool (is_over s.core)) [
    | inl over ↦ run-over base (suc n + more) picks s over ∙ sym (run-over base (suc n) picks s over)
    | inr going ↦
        let one : StepResult Db = move base (first_pick picks) s in
        let all : suc n + more ≡ suc (n + more) = suc-add n more in
        let enough : steps base (suc (n + more)) picks s ≤ suc n =
        subst (λ (k : ℕ). steps base k picks s ≤ suc n) all few in
        let fewer : steps base (n + more) (later_picks picks) one.state ≤ n =
        omega (arith, enough, steps-suc base (n + more) picks s going) in
        ap (λ (k : ℕ). run base k picks s) all
        ∙ run-suc base (n + more) picks s going
        ∙ no_more n more (later_picks picks) one.state fewer
        ∙ sym (run-suc base n picks s going)
  ]

-- a run ends within no more steps than it may have
pub steps_at_most : (n : ℕ) (picks : List ℕ) (w : World) → steps_by n picks w ≤ n
steps_at_most n picks w = elim (cases-option (start_script w)) [
  | inl none ↦ omega (arith, ap (steps_in n picks w) none)
  | inr found ↦ omega (arith, ap (steps_in n picks w) found.1, few_steps sql_base n picks (start_state w found.0))
]
