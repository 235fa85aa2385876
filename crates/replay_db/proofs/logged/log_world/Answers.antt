use Rattle.std.proofs.Common.{◌≡◌, ◌∙◌, subst, [], true, false}
use Rattle.proc_core.specs.Stops.{HasRunStopped}
use Rattle.proc_core.specs.declared.error.RunStop.{RunStop}
use Rattle.run_model.specs.Core.{is_over}
use Rattle.run_model.specs.Run.{run}
use Rattle.run_model.specs.SqlDatabase.{sql_base}
use Rattle.run_model.proofs.StartScripts.{has_script}
use Rattle.run_laws.specs.KeptReplies.{keeping_base}
use Rattle.replay_db.specs.inner.Logging.{kept_start}
use Rattle.replay_db.proofs.LoggedRuns.{kept_ends, kept_counts, kept_told, kept_logs, kept_never}
use Rattle.run_laws.proofs.SqlAnswers.{not_over}
use Rattle.replay_db.proofs.logged.log_world.Goals as goal

pub returns-in-Ok-clause-logged : goal.returns-in-Ok-clause-logged
returns-in-Ok-clause-logged c =
    let script = has_script c.args.world c.requires.can_run.script in
    let start = kept_start c.args.world script.0 in
    let stands = c.in_ok-begun.ensures.state script.0 script.1 in
    let after = c.in-Ok.ensures.state start stands in
    record {
      ended = kept_ends c.args.budget c.args.world script.0 script.1 true (c.in-Ok.ensures.ended start stands);
      events =
          c.in_ok-recorded_run-in-Ok.ensures.events
          ∙ kept_told c.args.budget c.args.world script.0 script.1 c.in_ok-begun.begun.tracer c.in-Ok.ended.tracer
          c.in_ok-begun.ensures.told (c.in-Ok.ensures.told start stands);
      steps = kept_counts c.args.budget c.args.world script.0 script.1 _ (c.in_ok-recorded_run-in-Ok.ensures.steps ∙ c.in-Ok.ensures.steps start stands);
      logs = kept_logs c.args.budget c.args.world script.0 script.1 _ _ after.state.1 c.in_ok-recorded_run-in-Ok.ensures.logs;
    }

pub returns-in-Err-NotEnded-clause-not_ended : goal.returns-in-Err-NotEnded-clause-not_ended
returns-in-Err-NotEnded-clause-not_ended c =
    let script = has_script c.args.world c.requires.can_run.script in
    let start = kept_start c.args.world script.0 in
    let stopped = c.in-Err-NotEnded.ensures.stopped start (c.in_ok-begun.ensures.state script.0 script.1) in
    let going : is_over (run (keeping_base sql_base) c.args.budget [] start).core ≡ false =
    subst (λ (stop : RunStop). HasRunStopped stop (run (keeping_base sql_base) c.args.budget [] start)) c.in-Err-NotEnded.field-0-is stopped in
    kept_ends c.args.budget c.args.world script.0 script.1 false (not_over (run (keeping_base sql_base) c.args.budget [] start).core going)

pub unreachable-requires : goal.unreachable-requires
unreachable-requires c =
    let script = has_script c.args.world c.requires.can_run.script in
    let start = kept_start c.args.world script.0 in
    let stopped = c.in-Err-Diverged.ensures.stopped start (c.in_ok-begun.ensures.state script.0 script.1) in
    absurd
    (kept_never c.args.budget c.args.world script.0 script.1 _
    (subst (λ (stop : RunStop). HasRunStopped stop (run (keeping_base sql_base) c.args.budget [] start)) c.in-Err-Diverged.field-0-is stopped))
