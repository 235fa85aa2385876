-- The due output for the run of a package over its recorded replies: if it has ended, if it hasn't, and if a
-- statement wasn't the recorded one.
use Rattle.std.proofs.Common.{◌≡◌, ℕ, [], sym, ap, ◌∙◌}
use Rattle.std.specs.Prelude.{Option, Some, None}
use Rattle.run_model.specs.Core.{Divergence as DivergedAt}
use Rattle.run_model.specs.LogRun.{log_outcome}
use Rattle.run_model.specs.OutcomeText.{outcome_text_of}
use Rattle.run_model.specs.declared.name.ProcName.{ProcName}
use Rattle.run_model.specs.declared.outcome.Outcome.{Outcome}
use Rattle.run_model.specs.declared.package.Package.{Package}
use Rattle.replay_log.specs.Replays.{IsDueOfLogs}
use Rattle.ldv_top.specs.declared.exit.Exit.TheVariants.{NotEnded, Diverged}
use Rattle.ldv_top.specs.Due.{due_refusal, due_bytes, due_outcome, outcome_due, due_divergence, due_log}

log_due : (budget : ℕ) (p : Package) (outcome : Option Outcome) (divergence : Option DivergedAt)
    → IsDueOfLogs budget p outcome divergence
    → due_divergence (due_outcome budget outcome_due outcome) divergence ≡ due_log budget p
log_due budget p outcome divergence comes =
    ap (λ (o : Option Outcome). due_divergence (due_outcome budget outcome_due o) divergence) (sym comes.0)
    ∙ ap (due_divergence (due_outcome budget outcome_due (log_outcome budget [] p))) (sym comes.1)

pub log_in_time : (budget : ℕ) (p : Package) (outcome : Outcome) → IsDueOfLogs budget p (Some outcome) None
    → due_bytes (outcome_text_of outcome) ≡ due_log budget p
log_in_time budget p outcome comes = log_due budget p (Some outcome) None comes

pub log_late : (budget : ℕ) (p : Package) → IsDueOfLogs budget p None None → due_refusal (NotEnded budget) ≡ due_log budget p
log_late budget p comes = log_due budget p None None comes

pub log_diverged : (budget : ℕ) (p : Package) (process : ProcName) (index : ℕ)
    → IsDueOfLogs budget p None (Some (record { process = process.parts; index = index }))
    → due_refusal (Diverged process index) ≡ due_log budget p
log_diverged budget p process index comes =
    log_due budget p None (Some (record { process = process.parts; index = index })) comes

pub ruleset log_ends = (log_in_time, log_late, log_diverged)
