-- The record of a run, and the package made from it.
use Rattle.std.specs.Prelude.{◌≡◌, ℕ, [], true, false}
use Rattle.run_model.specs.Slice.{files_needed, tables_needed}
use Rattle.run_model.specs.WorldRun.{ends_within, events_within, steps_by}
use Rattle.replay_db.specs.Types.{Included, Package, World}
use Rattle.replay_db.specs.declared.error.EndStop.{EndStop}
use Rattle.replay_db.specs.declared.error.EndStop.TheVariants.{NotEnded, NoMemory}
use Rattle.replay_db.specs.declared.trace.Traced.{Traced}

-- `NotEnded` says that the run hasn't ended after the steps of the budget
abbrev pub HasNotEnded : ℕ → World → EndStop → Type 0
HasNotEnded n w NotEnded = ends_within n w ≡ false
HasNotEnded n w NoMemory = Unit {0}

-- what is recorded of a run that ends within a budget of steps
pub record IsTraced (n : ℕ) (w : World) (t : Traced) : Type 0 where
  pub ended : ends_within n w ≡ true
  pub events : t.events ≡ events_within n w
  pub steps : t.steps ≡ steps_by n [] w

-- the included package of a world, with what is recorded of its run
abbrev pub package_of_traced : World → Traced → Package
package_of_traced w t = record {
  mode = Included;
  start = w.start;
  seed = w.seed;
  steps = t.steps;
  files = files_needed t.events w.files;
  tables = tables_needed t.events w.tables;
  logs = [];
  events = t.events;
}
