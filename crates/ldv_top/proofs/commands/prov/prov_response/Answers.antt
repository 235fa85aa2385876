use Rattle.std.proofs.Common.{◌≡◌, subst}
use Rattle.std.specs.Prelude.{IfOk}
use Rattle.ldv_top.specs.declared.response.Response.{Response}
use Rattle.ldv_top.specs.Due.{DueOutput, response_due}
use Rattle.ldv_top.proofs.DocumentLaws.{prov_read}
use Rattle.ldv_top.proofs.commands.prov.prov_response.Goals as goal

pub returns-in-Ok : goal.returns-in-Ok
returns-in-Ok c =
    subst (λ (d : DueOutput). IfOk c.written_response.result (λ (response : Response). response_due response ≡ d))
    (prov_read c.in-Ok.package c.args.input c.requires.short c.in-Ok.ensures.reading)
    c.written_response.ensures
