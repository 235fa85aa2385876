use Rattle.std.proofs.Common.{◌≡◌, ap, ◌∙◌, subst}
use Rattle.run_model.specs.Start.{start_script}
use Rattle.run_model.specs.WorldRun.{events_within}
use Rattle.replay_db.specs.inner.Recording.{HasNotEnded, IsTraced}
use Rattle.replay_db.specs.Types.{Included, World}
use Rattle.replay_db.proofs.RecordedRuns.{package_packed, package_stops}
use Rattle.replay_db.proofs.RunTraces.{recorded_trace, recorded_rows}
use Rattle.replay_db.proofs.record.included_package_of_run.Goals as goal

pub trace_world-requires-clause-parsed : goal.trace_world-requires-clause-parsed
trace_world-requires-clause-parsed c = ap start_script c.in_ok-copy.ensures ∙ c.requires.parsed

pub pack_included-requires-clause-trace : goal.pack_included-requires-clause-trace
pack_included-requires-clause-trace c =
    recorded_trace c.args.budget c.args.world.now c.requires.can_run c.in-Ok.traced.events
    (c.in-Ok.ensures.traced.events ∙ ap (events_within c.args.budget) c.in_ok-copy.ensures)

pub pack_included-requires-clause-rows : goal.pack_included-requires-clause-rows
pack_included-requires-clause-rows c =
    recorded_rows c.args.budget c.args.world.now c.requires.can_run c.in-Ok.traced.events
    (c.in-Ok.ensures.traced.events ∙ ap (events_within c.args.budget) c.in_ok-copy.ensures)

pub returns-in_ok-pack_included-in-Ok : goal.returns-in_ok-pack_included-in-Ok
returns-in_ok-pack_included-in-Ok c =
    package_packed c.args.budget c.args.world.now c.in-Ok.traced _
    (subst (λ (w : World). IsTraced c.args.budget w c.in-Ok.traced) c.in_ok-copy.ensures c.in-Ok.ensures.traced)
    c.in_ok-pack_included-in-Ok.ensures

pub returns-in-Err : goal.returns-in-Err
returns-in-Err c =
    package_stops Included c.args.budget c.args.world.now c.in-Err.stop
    (subst (λ (w : World). HasNotEnded c.args.budget w c.in-Err.stop) c.in_ok-copy.ensures c.in-Err.ensures.not_ended)
