-- The due output for the run of a package under another seed: if it has ended, if it hasn't, if a statement
-- wasn't the recorded one, and if it isn't run.
use Rattle.std.proofs.Common.{◌≡◌, ℕ, Bool, true, false, refl}
use Rattle.std.specs.Prelude.{if◌then◌else◌, Ok, Err}
use Rattle.run_model.specs.OutcomeText.{outcome_text_of}
use Rattle.run_model.specs.declared.name.ProcName.{ProcName}
use Rattle.run_model.specs.declared.outcome.Outcome.{Outcome}
use Rattle.run_model.specs.declared.package.Package.{Package}
use Rattle.free_order.specs.OtherSeed.{is_free, ReplaysFree, ReplaysUnder}
use Rattle.free_order.specs.declared.error.OrderStop.TheVariants as stops
use Rattle.replay_log.specs.Replays.{with_seed}
use Rattle.ldv_top.specs.declared.exit.Exit.TheVariants.{NotEnded, Diverged, NotPrivate}
use Rattle.ldv_top.specs.Due.{DueOutput, due_refusal, due_bytes, due_log, reseeded_package}
use Rattle.ldv_top.proofs.LogResponses.{log_in_time, log_late, log_diverged}

-- by whether it is run
abbrev by_free : Bool → ℕ → Package → DueOutput
by_free free budget p = if free then due_log budget p else due_refusal NotPrivate

module _ (budget : ℕ) (p : Package) where
  in_time : (free : Bool) (outcome : Outcome) → ReplaysFree free budget p (Ok outcome)
      → due_bytes (outcome_text_of outcome) ≡ by_free free budget p
  in_time true outcome runs = log_in_time budget p outcome runs
  in_time false outcome runs = absurd runs

  late : (free : Bool) → ReplaysFree free budget p (Err stops.NotEnded)
      → due_refusal (NotEnded budget) ≡ by_free free budget p
  late true runs = log_late budget p runs
  late false runs = absurd runs

  diverged : (free : Bool) (process : ProcName) (index : ℕ) → ReplaysFree free budget p (Err (stops.Diverged process index))
      → due_refusal (Diverged process index) ≡ by_free free budget p
  diverged true process index runs = log_diverged budget p process index runs
  diverged false process index runs = absurd runs

  shared : (free : Bool) → ReplaysFree free budget p (Err stops.NotPrivate) → due_refusal NotPrivate ≡ by_free free budget p
  shared true runs = absurd runs
  shared false runs = refl

module _ (budget seed : ℕ) (p : Package) where
  pub seed_in_time : (outcome : Outcome) → ReplaysUnder seed budget p (Ok outcome)
      → due_bytes (outcome_text_of outcome) ≡ reseeded_package seed budget p
  seed_in_time outcome runs = in_time budget (with_seed seed p) (is_free p) outcome runs

  pub seed_late : ReplaysUnder seed budget p (Err stops.NotEnded)
      → due_refusal (NotEnded budget) ≡ reseeded_package seed budget p
  seed_late runs = late budget (with_seed seed p) (is_free p) runs

  pub seed_diverged : (process : ProcName) (index : ℕ) → ReplaysUnder seed budget p (Err (stops.Diverged process index))
      → due_refusal (Diverged process index) ≡ reseeded_package seed budget p
  seed_diverged process index runs = diverged budget (with_seed seed p) (is_free p) process index runs

  pub seed_shared : ReplaysUnder seed budget p (Err stops.NotPrivate) → due_refusal NotPrivate ≡ reseeded_package seed budget p
  seed_shared runs = shared budget (with_seed seed p) (is_free p) runs

pub ruleset seed_ends = (seed_in_time, seed_late, seed_diverged, seed_shared)
