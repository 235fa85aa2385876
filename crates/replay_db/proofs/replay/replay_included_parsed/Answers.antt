use Rattle.std.proofs.Common.{sym, subst}
use Rattle.ldv_value.specs.Gives.{Gives}
use Rattle.run_model.specs.ValidWorld.{CanRun}
use Rattle.run_model.specs.WorldRun.{outcome_within}
use Rattle.replay_db.specs.Runs.{Stops}
use Rattle.replay_db.specs.Types.{World}
use Rattle.replay_db.proofs.replay.replay_included_parsed.Goals as goal

pub run_parsed-requires-clause-can_run : goal.run_parsed-requires-clause-can_run
run_parsed-requires-clause-can_run c = subst CanRun (sym c.in_ok-own.ensures.world) c.requires.can_run

pub returns : goal.returns
returns c =
    subst (λ (w : World). Gives Stops c.run_parsed.result (outcome_within c.args.budget w)) c.in_ok-own.ensures.world
    c.run_parsed.ensures.outcome
