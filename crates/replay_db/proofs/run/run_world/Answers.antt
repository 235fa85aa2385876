use Rattle.std.proofs.Common.{subst}
use Rattle.ldv_value.specs.Gives.{Gives}
use Rattle.run_model.specs.WorldRun.{outcome_within}
use Rattle.replay_db.specs.Runs.{CanRun, RunsAs, Stops}
use Rattle.replay_db.specs.Types.{World}
use Rattle.replay_db.proofs.run.run_world.Goals as goal

pub returns-clause-between : goal.returns-clause-between
returns-clause-between c =
    subst (λ (w : World). RunsAs c.args.budget w c.run_owned.result) c.in_ok-copy.ensures c.run_owned.ensures.between
