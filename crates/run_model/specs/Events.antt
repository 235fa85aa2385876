-- The events of a run: the acts of each step. The end of a process is the last event of its step; `print`,
-- `exit` and misuse have no other event.
use Rattle.std.specs.Prelude.{ℕ, zero, suc, ◌+◌, List, [], ◌∷◌, ◌++◌, map, if◌then◌else◌, Option, Some, None}
use Rattle.run_model.specs.Types.{Act, Started, Event}
use Rattle.run_model.specs.Core.{is_over}
use Rattle.run_model.specs.Database.{Base}
use Rattle.run_model.specs.Run.{first_pick, later_picks, move}
use Rattle.run_model.specs.State.{State, StepResult}

abbrev pub event_at : ℕ → ℕ → Act → Event
event_at step process act = record { step = step; process = process; act = act }

-- of the step of a number
abbrev pub events_of_step : {Db : Type 0} → ℕ → StepResult Db → List Event
events_of_step number stepped = map (event_at number stepped.process) stepped.acts

-- of a step, and of those that follow it
abbrev pub events_after : {Db : Type 0} → (ℕ → List ℕ → State Db → List Event) → ℕ → List ℕ → StepResult Db
    → List Event
events_after more number picks stepped =
    events_of_step number stepped ++ more (number + 1) picks stepped.state

-- of at most a number of steps, the first of which has the number that is given
unfoldable pub events : {Db : Type 0} → Base Db → ℕ → ℕ → List ℕ → State Db → List Event
events base zero number picks s = []
events base (suc n) number picks s =
    if is_over s.core then []
    else events_after (events base n) number (later_picks picks) (move base (first_pick picks) s)

-- the first process is started on the path of the first start word, before step 1
abbrev pub start_events : Option (List ℕ) → List Event
start_events None = []
start_events (Some path) = event_at 0 0 (Started path) ∷ []
