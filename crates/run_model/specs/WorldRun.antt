-- The run of a world, over its tables: its outcome, its number of steps, its events, and the statements of
-- each process. It has at most n steps; given picks choose the first ones, and the seed chooses the others.
use Rattle.std.specs.Prelude.{ℕ, List, [], ◌∷◌, ◌++◌, map, filter, length, Bool, false, not, ◌==◌, Option}
use Rattle.std.specs.Prelude.{Some, None, slice_get}
use Rattle.run_model.specs.Types.{Instr, Event, Log, Outcome, World}
use Rattle.run_model.specs.Core.{Process, Core, have_all_ended}
use Rattle.run_model.specs.Events.{events, start_events}
use Rattle.run_model.specs.Outcome.{by_name, outcome_at}
use Rattle.run_model.specs.Run.{run, steps}
use Rattle.run_model.specs.SqlDatabase.{SqlDatabase, sql_base}
use Rattle.run_model.specs.Start.{start_script, start_state}
use Rattle.run_model.specs.State.{State}

-- ---- by the script that a world starts with

abbrev pub core_after : ℕ → List ℕ → World → List Instr → Core
core_after n picks w script = (run sql_base n picks (start_state w script)).core

abbrev pub ends_in : ℕ → List ℕ → World → Option (List Instr) → Bool
ends_in n picks w None = false
ends_in n picks w (Some script) = have_all_ended (core_after n picks w script)

-- whether all processes have ended
abbrev pub ends_by : ℕ → List ℕ → World → Bool
ends_by n picks w = ends_in n picks w (start_script w)

abbrev pub outcome_in : ℕ → List ℕ → World → Option (List Instr) → Option Outcome
outcome_in n picks w None = None
outcome_in n picks w (Some script) = outcome_at (core_after n picks w script)

abbrev pub outcome_by : ℕ → List ℕ → World → Option Outcome
outcome_by n picks w = outcome_in n picks w (start_script w)

abbrev pub steps_in : ℕ → List ℕ → World → Option (List Instr) → ℕ
steps_in n picks w None = 0
steps_in n picks w (Some script) = steps sql_base n picks (start_state w script)

abbrev pub steps_by : ℕ → List ℕ → World → ℕ
steps_by n picks w = steps_in n picks w (start_script w)

abbrev pub events_in : ℕ → List ℕ → World → Option (List Instr) → List Event
events_in n picks w None = []
events_in n picks w (Some script) =
    start_events (slice_get w.start 0) ++ events sql_base n 1 picks (start_state w script)

abbrev pub events_by : ℕ → List ℕ → World → List Event
events_by n picks w = events_in n picks w (start_script w)

-- ---- logs: what each process asked, with the replies

abbrev pub has_asked : Process → Bool
has_asked p = not (length p.entries == 0)

abbrev pub log_of : Process → Log
log_of p = record { process = record { parts = p.name }; entries = p.entries }

-- of the processes that asked, in the order of their names
abbrev pub logs_of : Core → List Log
logs_of c = map log_of (filter has_asked (by_name c.processes))

abbrev pub logs_in : ℕ → List ℕ → World → Option (List Instr) → List Log
logs_in n picks w None = []
logs_in n picks w (Some script) = logs_of (core_after n picks w script)

abbrev pub logs_by : ℕ → List ℕ → World → List Log
logs_by n picks w = logs_in n picks w (start_script w)

-- ---- by the seed

abbrev pub ends_within : ℕ → World → Bool
ends_within n w = ends_by n [] w

abbrev pub outcome_within : ℕ → World → Option Outcome
outcome_within n w = outcome_by n [] w

abbrev pub events_within : ℕ → World → List Event
events_within n w = events_by n [] w
