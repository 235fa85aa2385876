-- The results of the run of a package over its recorded replies.
use Rattle.std.specs.Prelude.{◌≡◌, ℕ, [], true, Option, Some, None, is_some, Result, Ok, Err}
use Rattle.ldv_value.specs.FileState.{files_test}
use Rattle.ldv_value.specs.Sorted.{is_strictly_sorted}
use Rattle.replay_log.specs.Types.{Outcome, Package}
use Rattle.run_model.specs.Core.{Divergence}
use Rattle.run_model.specs.LogRun.{log_outcome, log_divergence}
use Rattle.run_model.specs.Package.{own_world}
use Rattle.run_model.specs.Start.{start_script}
use Rattle.run_model.specs.ValidPackage.{log_precedes, ValidPackage}
use Rattle.proc_core.specs.declared.error.RunStop.{RunStop}
use Rattle.proc_core.specs.declared.error.RunStop.TheVariants.{NotEnded, NoMemory}
use Rattle.proc_core.specs.declared.error.RunStop.TheVariants as run_stop

-- A package that can be run over its recorded replies: its first start word names a script, its files are
-- valid and sorted by path, and its logs are sorted by process. A valid package is one.
pub record CanReplay (p : Package) : Type 0 where
  pub script : is_some (start_script (own_world p)) ≡ true
  pub files : files_test (own_world p).files ≡ true
  pub logs : is_strictly_sorted log_precedes p.logs ≡ true

abbrev pub CanReplayLaw : Type 0
CanReplayLaw = (p : Package) → ValidPackage p → CanReplay p

-- what a run over recorded replies doesn't take of a package
abbrev pub without_trace : Package → Package
without_trace p = record p { tables = []; events = [] }

-- under another seed
abbrev pub with_seed : ℕ → Package → Package
with_seed seed p = record p { seed = seed }

-- what it comes to within a budget of steps: its outcome where it has ended, and where it has diverged
abbrev pub IsDueOfLogs : ℕ → Package → Option Outcome → Option Divergence → Type 0
IsDueOfLogs budget p outcome divergence =
    (log_outcome budget [] p ≡ outcome) × (log_divergence budget [] p ≡ divergence)

-- a run that hasn't ended has diverged, or neither
abbrev pub Stops : ℕ → Package → RunStop → Type 0
Stops budget p NotEnded = IsDueOfLogs budget p None None
Stops budget p (run_stop.Diverged process index) =
    IsDueOfLogs budget p None (Some (record { process = process.parts; index = index }))
Stops budget p NoMemory = Unit {0}

abbrev pub Replays : ℕ → Package → Result Outcome RunStop → Type 0
Replays budget p (Ok outcome) = IsDueOfLogs budget p (Some outcome) None
Replays budget p (Err stop) = Stops budget p stop
