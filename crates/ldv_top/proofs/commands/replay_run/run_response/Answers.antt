use Rattle.std.proofs.Common.{◌≡◌, sym, subst}
use Rattle.std.specs.Prelude.{IfOk}
use Rattle.run_model.specs.ValidWorld.{CanRun}
use Rattle.run_model.specs.declared.world.World.{World}
use Rattle.ldv_top.specs.declared.response.Response.{Response}
use Rattle.ldv_top.specs.Due.{due_world, response_due}
use Rattle.ldv_top.proofs.commands.replay_run.run_response.Goals as goal

pub parsed_response-requires-clause-can_run : goal.parsed_response-requires-clause-can_run
parsed_response-requires-clause-can_run c = subst CanRun (sym c.in_ok-parsed.ensures.world) c.requires.can_run

pub returns : goal.returns
returns c =
    subst (λ (w : World). IfOk c.parsed_response.result (λ (response : Response). response_due response ≡ due_world c.args.budget w))
    c.in_ok-parsed.ensures.world c.parsed_response.ensures
