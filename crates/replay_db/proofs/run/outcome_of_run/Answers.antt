use Rattle.std.proofs.Common.{[]}
use Rattle.run_model.specs.Run.{run}
use Rattle.run_model.specs.SqlDatabase.{sql_base}
use Rattle.run_model.specs.Start.{start_state}
use Rattle.run_model.proofs.StartScripts.{has_script}
use Rattle.replay_db.proofs.EndedRuns.{yields}
use Rattle.replay_db.proofs.run.outcome_of_run.Goals as goal

pub returns : goal.returns
returns c =
    let script = has_script c.args.world c.requires.can_run.script in
    yields c.args.budget c.args.world script.0 script.1 _ c.in_ok-ended.ensures.ended
    (c.in_ok-into_outcome.ensures (run sql_base c.args.budget [] (start_state c.args.world script.0)) (c.in_ok-ended.ensures.state script.0 script.1))
