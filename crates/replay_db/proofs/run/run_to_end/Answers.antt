use Rattle.std.proofs.Common.{◌≡◌, subst, refl, [], true, false}
use Rattle.proc_core.specs.Stops.{HasRunStopped}
use Rattle.proc_core.specs.declared.error.RunStop.{RunStop}
use Rattle.run_model.specs.Core.{is_over}
use Rattle.run_model.specs.Run.{run}
use Rattle.run_model.specs.SqlDatabase.{sql_base}
use Rattle.run_model.specs.Start.{start_state}
use Rattle.run_model.proofs.StartScripts.{has_script}
use Rattle.replay_db.proofs.EndedRuns.{ends_as, counts_as, told_all}
use Rattle.run_laws.proofs.SqlAnswers.{never_diverged, not_over}
use Rattle.replay_db.proofs.run.run_to_end.Goals as goal

pub returns-in-Ok-clause-state : goal.returns-in-Ok-clause-state
returns-in-Ok-clause-state g c = λ script is.
    c.in-Ok.ensures.state (start_state c.args.world script) (c.in_ok-begun.ensures.state script is)

pub returns-in-Ok-clause-ended : goal.returns-in-Ok-clause-ended
returns-in-Ok-clause-ended g c =
    let script = has_script c.args.world c.requires.can_run.script in
    ends_as c.args.budget c.args.world script.0 script.1 true
    (c.in-Ok.ensures.ended (start_state c.args.world script.0) (c.in_ok-begun.ensures.state script.0 script.1))

pub returns-in-Ok-clause-told : goal.returns-in-Ok-clause-told
returns-in-Ok-clause-told g c =
    let script = has_script c.args.world c.requires.can_run.script in
    told_all c.args.budget c.args.world script.0 script.1 g.T.Tracer.KEEPS (g.T.Tracer.events c.args.tracer)
    (g.T.Tracer.events c.in_ok-begun.begun.tracer) (g.T.Tracer.events c.in-Ok.ended.tracer) c.in_ok-begun.ensures.told
    (c.in-Ok.ensures.told (start_state c.args.world script.0) (c.in_ok-begun.ensures.state script.0 script.1))

pub returns-in-Ok-clause-steps : goal.returns-in-Ok-clause-steps
returns-in-Ok-clause-steps g c =
    let script = has_script c.args.world c.requires.can_run.script in
    counts_as c.args.budget c.args.world script.0 script.1 c.in-Ok.ended.steps
    (c.in-Ok.ensures.steps (start_state c.args.world script.0) (c.in_ok-begun.ensures.state script.0 script.1))

pub returns-in-Err-NotEnded-clause-not_ended : goal.returns-in-Err-NotEnded-clause-not_ended
returns-in-Err-NotEnded-clause-not_ended g c =
    let script = has_script c.args.world c.requires.can_run.script in
    let stopped = c.in-Err-NotEnded.ensures.stopped (start_state c.args.world script.0) (c.in_ok-begun.ensures.state script.0 script.1) in
    let going : is_over (run sql_base c.args.budget [] (start_state c.args.world script.0)).core ≡ false =
    subst (λ (stop : RunStop). HasRunStopped stop (run sql_base c.args.budget [] (start_state c.args.world script.0))) c.in-Err-NotEnded.field-0-is stopped in
    ends_as c.args.budget c.args.world script.0 script.1 false (not_over (run sql_base c.args.budget [] (start_state c.args.world script.0)).core going)

pub unreachable-requires : goal.unreachable-requires
unreachable-requires g c =
    let script = has_script c.args.world c.requires.can_run.script in
    let stopped = c.in-Err-Diverged.ensures.stopped (start_state c.args.world script.0) (c.in_ok-begun.ensures.state script.0 script.1) in
    absurd
    (never_diverged c.args.budget [] (start_state c.args.world script.0) refl _
    (subst (λ (stop : RunStop). HasRunStopped stop (run sql_base c.args.budget [] (start_state c.args.world script.0))) c.in-Err-Diverged.field-0-is stopped))
