use Rattle.std.proofs.Common.{◌≡◌, subst}
use Rattle.std.specs.Prelude.{IfOk, Some}
use Rattle.ldv_top.specs.declared.response.Response.{Response}
use Rattle.ldv_top.specs.Due.{DueOutput, response_due}
use Rattle.ldv_top.proofs.DocumentLaws.{document_read}
use Rattle.ldv_top.proofs.commands.prov.prov_depends_response.Goals as goal

pub returns-in-Ok : goal.returns-in-Ok
returns-in-Ok c =
    subst (λ (d : DueOutput). IfOk c.sources_response.result (λ (response : Response). response_due response ≡ d))
    (document_read c.args.path.now c.args.input (Some c.in-Ok.graph) c.requires.short c.in-Ok.ensures)
    c.sources_response.ensures
