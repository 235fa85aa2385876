use Rattle.std.proofs.Common.{◌≡◌, subst}
use Rattle.std.specs.Prelude.{IfOk}
use Rattle.package_codec.specs.CompactPackages.{expanded_package}
use Rattle.ldv_top.specs.declared.response.Response.{Response}
use Rattle.ldv_top.specs.Due.{DueOutput, response_due}
use Rattle.ldv_top.proofs.JoinResponses.{pair_due}
use Rattle.ldv_top.proofs.commands.join.join_response.Goals as goal

pub returns-in-Ok : goal.returns-in-Ok
returns-in-Ok c =
    subst (λ (d : DueOutput). IfOk c.packages_response.result (λ (response : Response). response_due response ≡ d))
    (pair_due c.args.input (expanded_package c.in-Ok.a) (expanded_package c.in-Ok.b) c.requires.short c.in-Ok.ensures.due)
    c.packages_response.ensures
