use Rattle.std.proofs.Common.{◌≡◌, sym, subst}
use Rattle.std.specs.Prelude.{IfOk}
use Rattle.run_model.specs.ValidWorld.{CanRun}
use Rattle.run_model.specs.declared.world.World.{World}
use Rattle.ldv_top.specs.declared.response.Response.{Response}
use Rattle.ldv_top.specs.Due.{response_due}
use Rattle.replay_db.specs.Auditing.{HasTables}
use Rattle.ldv_top.specs.DueOfAudits.{audited_world}
use Rattle.ldv_top.proofs.commands.audit.included_response.Goals as goal

pub world_response-requires-clause-can_run : goal.world_response-requires-clause-can_run
world_response-requires-clause-can_run c = subst CanRun (sym c.in_ok-own.ensures.world) c.requires.can_run

pub world_response-requires-clause-fits : goal.world_response-requires-clause-fits
world_response-requires-clause-fits c = subst (λ (w : World). HasTables c.args.input.now w) (sym c.in_ok-own.ensures.world) c.requires.fits

pub returns : goal.returns
returns c =
    subst (λ (w : World). IfOk c.world_response.result (λ (response : Response). response_due response ≡ audited_world c.args.budget c.args.input.now w))
    c.in_ok-own.ensures.world c.world_response.ensures
