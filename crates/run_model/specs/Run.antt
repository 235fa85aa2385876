-- Runs: the state after some steps. Given picks choose the first steps, and the seed chooses the others.
use Rattle.std.specs.Prelude.{ℕ, zero, suc, ◌+◌, List, [], ◌∷◌, if◌then◌else◌, Option, Some, None}
use Rattle.run_model.specs.Core.{is_over}
use Rattle.run_model.specs.Database.{Base}
use Rattle.run_model.specs.Schedule.{choose, core_after_choice}
use Rattle.run_model.specs.State.{State, StepResult}
use Rattle.run_model.specs.Step.{step}

-- what picks the next step: a given pick, or the seed
abbrev pub first_pick : List ℕ → Option ℕ
first_pick [] = None
first_pick (k ∷ picks) = Some k

abbrev pub later_picks : List ℕ → List ℕ
later_picks [] = []
later_picks (k ∷ picks) = picks

module _ {Db : Type 0} where
  abbrev pub chosen : ℕ → State Db → State Db
  chosen number s = record { core = core_after_choice number s.core; db = s.db }

-- a step of the process of a creation number, which the scheduler chose
abbrev pub move_of : {Db : Type 0} → Base Db → ℕ → State Db → StepResult Db
move_of base number s = step base number (chosen number s)

-- one step of a run that isn't over
abbrev pub move : {Db : Type 0} → Base Db → Option ℕ → State Db → StepResult Db
move base pick s = move_of base (choose pick s.core) s

-- the state after a number of steps, or at the end where that comes before
unfoldable pub run : {Db : Type 0} → Base Db → ℕ → List ℕ → State Db → State Db
run base zero picks s = s
run base (suc n) picks s =
    if is_over s.core then s else run base n (later_picks picks) (move base (first_pick picks) s).state

-- how many steps are made, where at most a number of them may be
unfoldable pub steps : {Db : Type 0} → Base Db → ℕ → List ℕ → State Db → ℕ
steps base zero picks s = 0
steps base (suc n) picks s =
    if is_over s.core then 0 else 1 + steps base n (later_picks picks) (move base (first_pick picks) s).state
