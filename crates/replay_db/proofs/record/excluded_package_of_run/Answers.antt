use Rattle.std.proofs.Common.{ap, ◌∙◌, subst}
use Rattle.run_model.specs.Start.{start_script}
use Rattle.replay_db.specs.inner.Logging.{IsLogged}
use Rattle.replay_db.specs.inner.Recording.{HasNotEnded}
use Rattle.replay_db.specs.Types.{Excluded, World}
use Rattle.replay_db.proofs.LoggedRuns.{package_logged}
use Rattle.replay_db.proofs.RecordedRuns.{package_stops}
use Rattle.replay_db.proofs.record.excluded_package_of_run.Goals as goal

pub log_world-requires-clause-parsed : goal.log_world-requires-clause-parsed
log_world-requires-clause-parsed c = ap start_script c.in_ok-copy.ensures ∙ c.requires.parsed

pub returns-in_ok-pack_excluded-in-Ok : goal.returns-in_ok-pack_excluded-in-Ok
returns-in_ok-pack_excluded-in-Ok c =
    package_logged c.args.budget c.args.world.now c.in-Ok.logged _
    (subst (λ (w : World). IsLogged c.args.budget w c.in-Ok.logged) c.in_ok-copy.ensures c.in-Ok.ensures.logged)
    c.in_ok-pack_excluded-in-Ok.ensures

pub returns-in-Err : goal.returns-in-Err
returns-in-Err c =
    package_stops Excluded c.args.budget c.args.world.now c.in-Err.stop
    (subst (λ (w : World). HasNotEnded c.args.budget w c.in-Err.stop) c.in_ok-copy.ensures c.in-Err.ensures.not_ended)
