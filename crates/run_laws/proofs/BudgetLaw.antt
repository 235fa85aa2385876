-- A run ends with its last step: a budget of at least so many steps changes nothing.
use Rattle.std.proofs.Common.{◌≡◌, ℕ, zero, suc, ◌+◌, ◌≤◌, List, [], sym, ap, ◌∙◌, Bool, true, false, arith, inl, inr}
use Rattle.std.specs.Prelude.{Some, None, if◌then◌else◌}
use Rattle.std.proofs.lemmas.Bool.{cases_Bool}
use Rattle.ldv_value.proofs.Cases.{cases-option}
use Rattle.run_laws.specs.Types.{Mode, World}
use Rattle.run_laws.proofs.EndedLaw.{ended_law, ended_over, ended_starts}
use Rattle.run_laws.proofs.RunSteps.{steps_at_most}
use Rattle.run_model.specs.declared.outcome.Outcome.{Outcome}
use Rattle.run_model.specs.Core.{Core, have_all_ended, is_over}
use Rattle.run_model.specs.Database.{Base}
use Rattle.run_model.specs.Outcome.{outcome_of, outcome_at}
use Rattle.run_model.specs.Package.{package_of}
use Rattle.run_model.specs.Run.{first_pick, later_picks, move, run, steps}
use Rattle.run_model.specs.SqlDatabase.{SqlDatabase, sql_base}
use Rattle.run_model.specs.Start.{start_script, start_state}
use Rattle.run_model.specs.State.{State}
use Rattle.run_model.specs.WorldRun.{core_after, ends_in, ends_within, outcome_in, outcome_within, steps_in, steps_by}
use Rattle.run_model.proofs.Equations.{run-over, run-suc, steps-zero, steps-suc}

-- ---- the state after the steps that were made

module _ {Db : Type 0} (base : Base Db) where
  pub at_count : (m : ℕ) (picks : List ℕ) (s : State Db) → is_over (run base m picks s).core ≡ true
      → run base (steps base m picks s) picks s ≡ run base m picks s
  at_count zero picks s end = ap (λ (k : ℕ). run base k picks s) (steps-zero base picks s)
  at_count (suc m) picks s end = elim (cases_Bool (is_over s.core)) [
    | inl over ↦ run-over base (steps base (suc m) picks s) picks s over ∙ sym (run-over base (suc m) picks s over)
    | inr going ↦
        let next : State Db = (move base (first_pick picks) s).state in
        let at_end : is_over (run base m (later_picks picks) next).core ≡ true =
        ap (λ (t : State Db). is_over t.core) (sym (run-suc base m picks s going)) ∙ end in
        let count : ℕ = steps base m (later_picks picks) next in
        let one : 1 + count ≡ suc count = omega arith in
        ap (λ (k : ℕ). run base k picks s) (steps-suc base m picks s going ∙ one)
        ∙ run-suc base count picks s going
        ∙ at_count m (later_picks picks) next at_end
        ∙ sym (run-suc base m picks s going)
  ]

-- ---- outcomes of runs that ended

core_ends : (c : Core) (outcome : Outcome) → outcome_at c ≡ Some outcome → have_all_ended c ≡ true
core_ends c outcome is = elim (cases_Bool (have_all_ended c)) [
  | inl ended ↦ ended
  | inr going ↦
      let never : None ≡ Some outcome = sym (ap (λ (b : Bool). if b then Some (outcome_of c) else None) going) ∙ is in
      cc
]

module _ (n : ℕ) (w : World) where
  pub outcome_ends : (outcome : Outcome) → outcome_within n w ≡ Some outcome → ends_within n w ≡ true
  outcome_ends outcome is = elim (cases-option (start_script w)) [
    | inl none ↦ let never : None ≡ Some outcome = sym (ap (outcome_in n [] w) none) ∙ is in cc
    | inr script ↦
        let at_end : outcome_at (core_after n [] w script.0) ≡ Some outcome = sym (ap (outcome_in n [] w) script.1) ∙ is in
        ap (ends_in n [] w) script.1 ∙ core_ends (core_after n [] w script.0) outcome at_end
  ]

  pub ended_outcome : ends_within n w ≡ true → (outcome : Outcome) × (outcome_within n w ≡ Some outcome)
  ended_outcome ended =
      let script = ended_starts n [] w ended in
      let all : have_all_ended (core_after n [] w script.0) ≡ true = sym (ap (ends_in n [] w) script.1) ∙ ended in (
        outcome_of (core_after n [] w script.0),
        ap (outcome_in n [] w) script.1
            ∙ ap (λ (b : Bool). if b then Some (outcome_of (core_after n [] w script.0)) else None) all,
      )

  pub going_outcome : ends_within n w ≡ false → outcome_within n w ≡ None
  going_outcome going = elim (cases-option (start_script w)) [
    | inl none ↦ ap (outcome_in n [] w) none
    | inr script ↦
        let more : have_all_ended (core_after n [] w script.0) ≡ false = sym (ap (ends_in n [] w) script.1) ∙ going in
        ap (outcome_in n [] w) script.1
        ∙ ap (λ (b : Bool). if b then Some (outcome_of (core_after n [] w script.0)) else None) more
  ]

-- ---- a run that ended within n steps, within another budget

module _ (n : ℕ) (w : World) (ended : ends_within n w ≡ true) where
  ends_at_count : ends_within (steps_by n [] w) w ≡ true
  ends_at_count =
      let script = ended_starts n [] w ended in
      let start : State SqlDatabase = start_state w script.0 in
      let all : have_all_ended (core_after n [] w script.0) ≡ true = sym (ap (ends_in n [] w) script.1) ∙ ended in
      let same : run sql_base (steps sql_base n [] start) [] start ≡ run sql_base n [] start =
      at_count sql_base n [] start (ended_over (core_after n [] w script.0) all) in
      ap (λ (k : ℕ). ends_within k w) (ap (steps_in n [] w) script.1)
      ∙ ap (ends_in (steps sql_base n [] start) [] w) script.1
      ∙ ap (λ (s : State SqlDatabase). have_all_ended s.core) same
      ∙ all

  pub enough_outcome : (budget : ℕ) → steps_by n [] w ≤ budget → outcome_within budget w ≡ outcome_within n w
  enough_outcome budget enough =
      (ended_law (steps_by n [] w) budget [] w ends_at_count enough).outcome
      ∙ sym (ended_law (steps_by n [] w) n [] w ends_at_count (steps_at_most n [] w)).outcome

  pub enough_package : (mode : Mode) (budget : ℕ) → steps_by n [] w ≤ budget → package_of mode budget w ≡ package_of mode n w
  enough_package mode budget enough =
      (ended_law (steps_by n [] w) budget [] w ends_at_count enough).packed mode
      ∙ sym ((ended_law (steps_by n [] w) n [] w ends_at_count (steps_at_most n [] w)).packed mode)

  pub enough_ends : (budget : ℕ) → steps_by n [] w ≤ budget → ends_within budget w ≡ true
  enough_ends budget enough =
      let outcome = ended_outcome n w ended in
      outcome_ends budget w outcome.0 (enough_outcome budget enough ∙ outcome.1)
