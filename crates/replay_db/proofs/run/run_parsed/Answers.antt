use Rattle.replay_db.proofs.RunsBetween.{runs_as}
use Rattle.replay_db.proofs.run.run_parsed.Goals as goal

pub returns-clause-between : goal.returns-clause-between
returns-clause-between c = runs_as c.args.budget c.args.parsed.world c.outcome_of_run.result c.outcome_of_run.ensures
