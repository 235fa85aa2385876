-- The equations of runs, of their events and of their numbers of steps: no step, a run that is over, and one
-- step more.
use Rattle.std.proofs.Common.{◌≡◌, ℕ, zero, suc, ◌+◌, List, [], ◌++◌, refl, ap, Bool, true, false}
use Rattle.std.specs.Prelude.{if◌then◌else◌}
use Rattle.run_model.specs.Types.{Event}
use Rattle.run_model.specs.Core.{is_over}
use Rattle.run_model.specs.Database.{Base}
use Rattle.run_model.specs.Events.{events, events_after, events_of_step}
use Rattle.run_model.specs.Run.{first_pick, later_picks, move, run, steps}
use Rattle.run_model.specs.State.{State, StepResult}

module _ {Db : Type 0} (base : Base Db) where
  -- ---- runs

  pub run-zero : (picks : List ℕ) (s : State Db) → run base 0 picks s ≡ s
  unfolding run
  run-zero picks s = refl

  pub run-over : (n : ℕ) (picks : List ℕ) (s : State Db) → is_over s.core ≡ true → run base n picks s ≡ s
  unfolding run
  run-over zero picks s over = refl
  run-over (suc n) picks s over =
      ap (λ (b : Bool). if b then s else run base n (later_picks picks) (move base (first_pick picks) s).state) over

  pub run-suc : (n : ℕ) (picks : List ℕ) (s : State Db) → is_over s.core ≡ false
      → run base (suc n) picks s ≡ run base n (later_picks picks) (move base (first_pick picks) s).state
  unfolding run
  run-suc n picks s going =
      ap (λ (b : Bool). if b then s else run base n (later_picks picks) (move base (first_pick picks) s).state) going

  -- ---- steps

  pub steps-zero : (picks : List ℕ) (s : State Db) → steps base 0 picks s ≡ 0
  unfolding steps
  steps-zero picks s = refl

  pub steps-over : (n : ℕ) (picks : List ℕ) (s : State Db) → is_over s.core ≡ true → steps base n picks s ≡ 0
  unfolding steps
  steps-over zero picks s over = refl
  steps-over (suc n) picks s over =
      ap (λ (b : Bool). if b then 0 else 1 + steps base n (later_picks picks) (move base (first_pick picks) s).state) over

  pub steps-suc : (n : ℕ) (picks : List ℕ) (s : State Db) → is_over s.core ≡ false
      → steps base (suc n) picks s ≡ 1 + steps base n (later_picks picks) (move base (first_pick picks) s).state
  unfolding steps
  steps-suc n picks s going =
      ap (λ (b : Bool). if b then 0 else 1 + steps base n (later_picks picks) (move base (first_pick picks) s).state) going

  -- ---- events

  pub events-zero : (number : ℕ) (picks : List ℕ) (s : State Db) → events base 0 number picks s ≡ []
  unfolding events
  events-zero number picks s = refl

  pub events-over : (n number : ℕ) (picks : List ℕ) (s : State Db) → is_over s.core ≡ true
      → events base n number picks s ≡ []
  unfolding events
  events-over zero number picks s over = refl
  events-over (suc n) number picks s over =
      ap (λ (b : Bool). if b then [] else events_after (events base n) number (later_picks picks) (move base (first_pick picks) s)) over

  pub events-suc : (n number : ℕ) (picks : List ℕ) (s : State Db) → is_over s.core ≡ false
      → events base (suc n) number picks s
      ≡ events_after (events base n) number (later_picks picks) (move base (first_pick picks) s)
  unfolding events
  events-suc n number picks s going =
      ap (λ (b : Bool). if b then [] else events_after (events base n) number (later_picks picks) (move base (first_pick picks) s)) going
