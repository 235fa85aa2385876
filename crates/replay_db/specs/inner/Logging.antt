-- The record of a run with its replies, and the excluded package made from it.
use Rattle.std.specs.Prelude.{◌≡◌, ℕ, List, [], true}
use Rattle.run_model.specs.RunLaw.{start_state_of}
use Rattle.run_model.specs.Slice.{files_needed}
use Rattle.run_model.specs.SqlDatabase.{SqlDatabase, initial_database}
use Rattle.run_model.specs.State.{State}
use Rattle.run_model.specs.WorldRun.{ends_within, events_within, steps_by, logs_by}
use Rattle.run_laws.specs.KeptLaw.{nothing_kept}
use Rattle.run_laws.specs.KeptReplies.{KeepingDatabase}
use Rattle.replay_db.specs.Types.{Excluded, Instr, Package, World}
use Rattle.replay_db.specs.declared.logged.Logged.{Logged}
use Rattle.run_laws.specs.declared.kept.Kept.{Kept}

-- a database with what was kept
abbrev pub keeping_database : SqlDatabase → List Kept → KeepingDatabase SqlDatabase
keeping_database db kept = record { db = db; kept = kept }

-- over the world's tables, with nothing kept
abbrev pub kept_start : World → List Instr → State (KeepingDatabase SqlDatabase)
kept_start w script = start_state_of w.start w.seed w.files script (nothing_kept (initial_database w.tables))

-- what is recorded of a run that ends within a budget of steps
pub record IsLogged (n : ℕ) (w : World) (l : Logged) : Type 0 where
  pub ended : ends_within n w ≡ true
  pub events : l.events ≡ events_within n w
  pub steps : l.steps ≡ steps_by n [] w
  pub logs : l.logs ≡ logs_by n [] w

-- the excluded package of a world, with what is recorded of its run
abbrev pub packed_logs : World → Logged → Package
packed_logs w l = record {
  mode = Excluded;
  start = w.start;
  seed = w.seed;
  steps = l.steps;
  files = files_needed l.events w.files;
  tables = [];
  logs = l.logs;
  events = l.events;
}
