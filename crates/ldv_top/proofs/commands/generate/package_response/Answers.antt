use Rattle.std.proofs.Common.{◌≡◌, subst}
use Rattle.std.specs.Prelude.{IfOk}
use Rattle.ldv_top.specs.declared.response.Response.{Response}
use Rattle.ldv_top.specs.Due.{DueOutput, response_due}
use Rattle.ldv_top.proofs.GenerateLaws.{summed_whole}
use Rattle.ldv_top.proofs.commands.generate.package_response.Goals as goal

pub spelled_response-requires-clause-can_run : goal.spelled_response-requires-clause-can_run
spelled_response-requires-clause-can_run c = c.package_law.ensures.own_runs c.args.package c.in-Ok.ensures.typed c.requires.valid

pub returns-in-Ok : goal.returns-in-Ok
returns-in-Ok c =
    subst (λ (d : DueOutput). IfOk c.spelled_response.result (λ (response : Response). response_due response ≡ d))
    (summed_whole c.args.orders c.args.rows c.args.package c.in-Ok.bytes c.in-Ok.ensures.bytes c.in-Ok.ensures.within)
    c.spelled_response.ensures
