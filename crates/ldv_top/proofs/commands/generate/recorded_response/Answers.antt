use Rattle.std.proofs.Common.{rules, ◌≡◌, ◌∙◌, sym, ap, subst}
use Rattle.std.specs.Prelude.{Some, IfOk}
use Rattle.script_parse.specs.declared.script.Script.{Script}
use Rattle.run_model.specs.declared.package.Mode.TheVariants.{Included}
use Rattle.replay_db.specs.Runs.{Stops, package_within}
use Rattle.replay_db.specs.declared.error.EndStop.{EndStop}
use Rattle.ldv_value.specs.Limits.{default_steps}
use Rattle.ldv_top.specs.declared.response.Response.{Response}
use Rattle.ldv_top.specs.Due.{DueOutput, response_due}
use Rattle.ldv_top.specs.DueOfGenerate.{row_count}
use Rattle.ldv_top.proofs.GenerateLaws.{recorded_script, recorded_valid, summed_in_time, summed_late}
use Rattle.ldv_top.proofs.commands.generate.recorded_response.Goals as goal

pub record_once-requires-clause-can_run : goal.record_once-requires-clause-can_run
record_once-requires-clause-can_run c = c.package_law.ensures.runs c.args.parsed.world c.requires.valid

pub package_response-requires-clause-valid : goal.package_response-requires-clause-valid
package_response-requires-clause-valid c =
    recorded_valid c.args.parsed.world c.in-Ok.package c.in-Ok.ensures c.package_law.ensures.tables c.package_law.ensures.valid c.requires.valid

pub package_response-requires-clause-parsed : goal.package_response-requires-clause-parsed
package_response-requires-clause-parsed c =
    recorded_script c.args.parsed.world c.in-Ok.package c.in-Ok.ensures c.package_law.ensures.tables c.requires.valid
    c.args.parsed.script.instructions c.requires.parsed
    ∙ ap (λ (s : Script). Some s.instructions) (sym c.script_of.ensures)

pub returns-in-Ok : goal.returns-in-Ok
returns-in-Ok c =
    let counted : c.row_count-rows.result ≡ row_count c.args.parsed.world.tables = search rules in
    subst (λ (d : DueOutput). IfOk c.package_response.result (λ (response : Response). response_due response ≡ d))
    (summed_in_time c.args.parsed.world c.in-Ok.package c.in-Ok.ensures c.args.orders c.row_count-rows.result counted) c.package_response.ensures

pub returns-in-Err-NotEnded : goal.returns-in-Err-NotEnded
returns-in-Err-NotEnded c =
    summed_late c.args.orders c.args.parsed.world
    (subst (λ (stop : EndStop). Stops stop (package_within Included default_steps c.args.parsed.world)) c.in-Err-NotEnded.field-0-is c.in-Err-NotEnded.ensures)
