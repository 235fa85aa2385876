-- A run over files and recorded replies is the run of the package.
use Rattle.std.proofs.Common.{◌≡◌, ℕ, List, [], refl, sym, ap, ◌∙◌, Bool, true, false}
use Rattle.std.specs.Prelude.{Option, Some, None, is_some, Ok, if◌then◌else◌}
use Rattle.ldv_value.proofs.Booleans.{or-parts}
use Rattle.ldv_value.proofs.Options.{is_some-false}
use Rattle.proc_core.specs.Stops.{HasRunStopped}
use Rattle.proc_core.specs.declared.error.RunStop.{RunStop}
use Rattle.proc_core.specs.declared.error.RunStop.TheVariants.{NotEnded, NoMemory}
use Rattle.proc_core.specs.declared.error.RunStop.TheVariants as run_stop
use Rattle.replay_log.specs.Types.{Instr, Outcome, Package}
use Rattle.run_model.specs.Core.{Core, Divergence, have_all_ended}
use Rattle.run_model.specs.LogDatabase.{log_base}
use Rattle.run_model.specs.LogRun.{log_start, log_outcome_in, log_divergence_in}
use Rattle.run_model.specs.Outcome.{outcome_of, outcome_at}
use Rattle.run_model.specs.Package.{own_world}
use Rattle.run_model.specs.Run.{run}
use Rattle.run_model.specs.Start.{start_script}
use Rattle.replay_log.proofs.RunLaws.{NeverStuck, diverged_going}
use Rattle.replay_log.specs.Replays.{IsDueOfLogs, Stops, Replays}

-- ---- the end

module _ (n : ℕ) (p : Package) (script : List Instr) (is : start_script (own_world p) ≡ Some script) where
  abbrev core : Core
  core = (run log_base n [] (log_start p script)).core

  comes : (outcome : Option Outcome) (divergence : Option Divergence) → outcome_at core ≡ outcome → core.diverged ≡ divergence
      → IsDueOfLogs n p outcome divergence
  comes outcome divergence at where_it = (
    ap (log_outcome_in n [] p) is ∙ at,
    ap (log_divergence_in n [] p) is ∙ where_it,
  )

  going_none : have_all_ended core ≡ false → outcome_at core ≡ None
  going_none going = ap (λ (b : Bool). if b then Some (outcome_of core) else None) going

  pub has_ended_so : (outcome : Outcome) → have_all_ended core ≡ true → outcome ≡ outcome_of core → core.diverged ≡ None
      → Replays n p (Ok outcome)
  has_ended_so outcome ended same none =
      comes (Some outcome) None
      (ap (λ (b : Bool). if b then Some (outcome_of core) else None) ended ∙ ap (λ (o : Outcome). Some o) (sym same)) none

  pub has_stopped_so : NeverStuck log_base (log_start p script) → (stop : RunStop)
      → HasRunStopped stop (run log_base n [] (log_start p script)) → Stops n p stop
  has_stopped_so never NotEnded going =
      let both = or-parts (is_some core.diverged) (have_all_ended core) going in
      comes None None (going_none both.1) (is_some-false core.diverged both.0)
  has_stopped_so never (run_stop.Diverged process index) stopped =
      comes None (Some (record { process = process.parts; index = index }))
      (going_none (diverged_going log_base n (log_start p script) refl never _ stopped)) stopped
  has_stopped_so never NoMemory stopped = tt
