-- The due output for the run of a world, if it has ended and if it hasn't.
use Rattle.std.proofs.Common.{◌≡◌, ℕ, sym, ap}
use Rattle.std.specs.Prelude.{Some, None}
use Rattle.run_model.specs.declared.outcome.Outcome.{Outcome}
use Rattle.run_model.specs.declared.world.World.{World}
use Rattle.run_model.specs.OutcomeText.{outcome_text_of}
use Rattle.run_model.specs.WorldRun.{outcome_within}
use Rattle.ldv_top.specs.declared.exit.Exit.TheVariants.{NotEnded}
use Rattle.ldv_top.specs.Due.{due_refusal, due_bytes, due_outcome, outcome_due, due_world}

pub due_in_time : (budget : ℕ) (w : World) (outcome : Outcome) → outcome_within budget w ≡ Some outcome
    → due_bytes (outcome_text_of outcome) ≡ due_world budget w
due_in_time budget w outcome is = sym (ap (due_outcome budget outcome_due) is)

pub due_late : (budget : ℕ) (w : World) → outcome_within budget w ≡ None
    → due_refusal (NotEnded budget) ≡ due_world budget w
due_late budget w is = sym (ap (due_outcome budget outcome_due) is)

pub ruleset world_ends = (due_in_time, due_late)
