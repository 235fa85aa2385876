use Rattle.std.proofs.Common.{◌≡◌, subst}
use Rattle.std.specs.Prelude.{IfOk}
use Rattle.joined_data.specs.CompactJoins.{whole_join}
use Rattle.ldv_top.specs.declared.response.Response.{Response}
use Rattle.ldv_top.specs.Due.{DueOutput, response_due}
use Rattle.ldv_top.proofs.JoinResponses.{run_due}
use Rattle.ldv_top.proofs.commands.replay_run.replay_run_response.Goals as goal

pub run_response-requires-clause-can_run : goal.run_response-requires-clause-can_run
run_response-requires-clause-can_run c =
    c.joined_runs_law.ensures c.args.which (whole_join c.in-Ok.joined.cut) c.in-Ok.ensures.typed c.in-Ok.ensures.found.0

pub returns-in-Ok : goal.returns-in-Ok
returns-in-Ok c =
    subst (λ (d : DueOutput). IfOk c.run_response.result (λ (response : Response). response_due response ≡ d))
    (run_due c.args.which c.args.budget (whole_join c.in-Ok.joined.cut) c.args.input c.requires.short c.in-Ok.ensures.reading)
    c.run_response.ensures
