use Rattle.std.proofs.Common.{◌≡◌, ap, subst, sym}
use Rattle.std.specs.Prelude.{IfOk}
use Rattle.ldv_top.specs.declared.response.Response.{Response}
use Rattle.ldv_top.specs.Due.{DueOutput, response_due}
use Rattle.ldv_top.specs.DueOfJoins.{due_join_bytes}
use Rattle.ldv_top.proofs.commands.join.joined_response.Goals as goal

pub returns-in-Ok : goal.returns-in-Ok
returns-in-Ok c =
    subst (λ (d : DueOutput). IfOk c.spelled_response.result (λ (response : Response). response_due response ≡ d))
    (sym (ap due_join_bytes c.in-Ok.ensures.joined)) c.spelled_response.ensures
