use Rattle.std.proofs.Common.{◌≡◌, subst}
use Rattle.std.specs.Prelude.{IfOk}
use Rattle.replay_db.specs.Runs.{Stops, package_within}
use Rattle.replay_db.specs.declared.error.EndStop.{EndStop}
use Rattle.ldv_top.specs.declared.response.Response.{Response}
use Rattle.ldv_top.specs.Due.{DueOutput, response_due}
use Rattle.ldv_top.proofs.RecordLaws.{recorded_in_time, recorded_late}
use Rattle.ldv_top.proofs.commands.record.recorded_response.Goals as goal

pub returns-in-Ok : goal.returns-in-Ok
returns-in-Ok c =
    subst (λ (d : DueOutput). IfOk c.spelling_response.result (λ (response : Response). response_due response ≡ d))
    (recorded_in_time c.args.mode c.args.budget c.args.parsed.world c.in-Ok.package c.in-Ok.ensures.recorded)
    c.spelling_response.ensures

pub returns-in-Err-NotEnded : goal.returns-in-Err-NotEnded
returns-in-Err-NotEnded c =
    recorded_late c.args.mode c.args.budget c.args.parsed.world
    (subst (λ (stop : EndStop). Stops stop (package_within c.args.mode c.args.budget c.args.parsed.world))
    c.in-Err-NotEnded.field-0-is c.in-Err-NotEnded.ensures.recorded)
