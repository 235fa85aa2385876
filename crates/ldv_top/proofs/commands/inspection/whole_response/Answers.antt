use Rattle.std.proofs.Common.{◌≡◌, subst}
use Rattle.std.specs.Prelude.{IfOk}
use Rattle.ldv_top.specs.declared.response.Response.{Response}
use Rattle.ldv_top.specs.Due.{DueOutput, response_due}
use Rattle.ldv_top.proofs.ReportLaws.{report_read}
use Rattle.ldv_top.proofs.commands.inspection.whole_response.Goals as goal

pub returns-in-Ok : goal.returns-in-Ok
returns-in-Ok c =
    subst (λ (d : DueOutput). IfOk c.report_response.result (λ (response : Response). response_due response ≡ d))
    (report_read c.args.report.now c.in-Ok.package c.args.input c.requires.short c.in-Ok.ensures.reading)
    c.report_response.ensures
