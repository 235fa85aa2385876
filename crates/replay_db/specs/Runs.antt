-- Runs of worlds within a budget of steps, and the packages of these runs: worlds that can be run, the
-- results, and the results of larger worlds.
use Rattle.std.specs.Prelude.{◌≡◌, ◌≤◌, ℕ, true, if◌then◌else◌, Option, Some, None, Result}
use Rattle.ldv_value.specs.Gives.{Gives}
use Rattle.sql_model.specs.Tables.{tables_test}
use Rattle.run_model.specs.Between.{Between}
use Rattle.run_model.specs.Package.{package_of, own_world}
pub use Rattle.run_model.specs.ValidWorld.{CanRun}
use Rattle.run_model.specs.WorldRun.{ends_within, outcome_within}
use Rattle.package_layout.specs.Valid.{IsValidPackage}
use Rattle.package_layout.specs.Whole.{IsTyped}
use Rattle.replay_db.specs.Types.{Mode, Outcome, Package, World}
use Rattle.replay_db.specs.Worlds.{ValidWorld}
use Rattle.replay_db.specs.declared.error.EndStop.{EndStop}
use Rattle.replay_db.specs.declared.error.EndStop.TheVariants.{NotEnded, NoMemory}

-- ---- what can be run

-- every valid world, and the own world of every valid package
abbrev pub WorldRunsLaw : Type 0
WorldRunsLaw = (w : World) → ValidWorld w → CanRun w

abbrev pub OwnRunsLaw : Type 0
OwnRunsLaw = (p : Package) → IsTyped p → IsValidPackage p → CanRun (own_world p)

-- which is itself a valid world
abbrev pub OwnWorldLaw : Type 0
OwnWorldLaw = (p : Package) → IsTyped p → IsValidPackage p → ValidWorld (own_world p)

-- ---- what comes of a run

-- none where the run doesn't end within a budget of steps
abbrev pub package_within : Mode → ℕ → World → Option Package
package_within mode n w = if ends_within n w then Some (package_of mode n w) else None

-- `NotEnded` says that there is nothing that an ended run yields
abbrev pub Stops : {X : Type 0} → EndStop → Option X → Type 0
Stops NotEnded due = due ≡ None
Stops NoMemory due = Unit {0}

-- ---- a world that lies between the slice of a larger one's run and that world

-- only out of memory comes in the place of what is due
abbrev pub IsNoMemory : {X : Type 0} → EndStop → Option X → Type 0
IsNoMemory NotEnded due = ⊥
IsNoMemory NoMemory due = Unit {0}

-- The run of a world gives the outcome of each world between whose slice and which it lies, where the run of
-- that world ends within no more steps than the budget.
abbrev pub RunsAs : ℕ → World → Result Outcome EndStop → Type 0
RunsAs budget v result = (n : ℕ) (w : World) → tables_test w.tables ≡ true → ends_within n w ≡ true
    → n ≤ budget
    → Between n v w
    → Gives IsNoMemory result (outcome_within n w)

-- and it gives the package of that world, with the files, tables and rows that its run needs
abbrev pub RecordsAs : Mode → ℕ → World → Result Package EndStop → Type 0
RecordsAs mode budget v result = (n : ℕ) (w : World) → tables_test w.tables ≡ true → ends_within n w ≡ true
    → n ≤ budget
    → Between n v w
    → Gives IsNoMemory result (Some (package_of mode n w))
