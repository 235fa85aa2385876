-- A run is never stuck: while a process hasn't ended, the scheduler chooses one that may run. And a run has
-- few events: at most two a step, and one at the start.
use Rattle.std.specs.Prelude.{◌≡◌, ◌≤◌, ℕ, ◌+◌, ◌*◌, List, length, true, false, Option, Some, slice_get}
use Rattle.run_model.specs.Types.{File, Instr, World}
use Rattle.run_model.specs.Core.{Process, Core, have_all_ended, start_core}
use Rattle.run_model.specs.Database.{Base}
use Rattle.run_model.specs.Events.{events}
use Rattle.run_model.specs.Run.{run, steps}
use Rattle.run_model.specs.Schedule.{is_runnable, choose}
use Rattle.run_model.specs.State.{State}
use Rattle.run_model.specs.WorldRun.{steps_by, events_by}

-- the process of a creation number is there, hasn't ended, and doesn't wait for one that hasn't
abbrev pub MayRun : ℕ → Core → Type 0
MayRun number c =
    (p : Process) × (slice_get c.processes number ≡ Some p) × (is_runnable c.processes p ≡ true)

abbrev pub start_state_of : {Db : Type 0} → List (List ℕ) → ℕ → List File → List Instr → Db → State Db
start_state_of start seed files script db = record { core = start_core start seed files script; db = db }

-- over any database, after any steps of any script, whatever chooses: the seed, or any pick
abbrev pub NeverStuckLaw : Type 0 → Type 0
NeverStuckLaw Db = (base : Base Db) (n : ℕ) (picks : List ℕ)
    (start : List (List ℕ)) (seed : ℕ) (files : List File) (script : List Instr) (db : Db) (pick : Option ℕ)
    → have_all_ended (run base n picks (start_state_of start seed files script db)).core ≡ false
    → MayRun (choose pick (run base n picks (start_state_of start seed files script db)).core)
    (run base n picks (start_state_of start seed files script db)).core

-- over any database, whatever chooses: the events after the start are at most two for each step that is made,
-- since only a `copy` that succeeds has two of its own, and its process doesn't end by it
abbrev pub FewEventsLaw : Type 0 → Type 0
FewEventsLaw Db = (base : Base Db) (n : ℕ) (picks : List ℕ)
    (start : List (List ℕ)) (seed : ℕ) (files : List File) (script : List Instr) (db : Db)
    → length (events base n 1 picks (start_state_of start seed files script db))
    ≤ 2 * steps base n picks (start_state_of start seed files script db)

-- of a world, by the steps that its run makes and by those that it may make
abbrev pub WorldEventsLaw : Type 0
WorldEventsLaw = (n : ℕ) (picks : List ℕ) (w : World)
    → (length (events_by n picks w) ≤ 2 * steps_by n picks w + 1)
    × (length (events_by n picks w) ≤ 2 * n + 1)
