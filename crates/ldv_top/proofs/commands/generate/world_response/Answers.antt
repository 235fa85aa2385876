use Rattle.std.proofs.Common.{◌≡◌, sym, subst}
use Rattle.std.specs.Prelude.{IfOk}
use Rattle.run_model.specs.declared.world.World.{World}
use Rattle.replay_db.specs.Worlds.{ValidWorld}
use Rattle.ldv_top.specs.declared.response.Response.{Response}
use Rattle.ldv_top.specs.Due.{response_due}
use Rattle.ldv_top.specs.DueOfGenerate.{summed_world}
use Rattle.ldv_top.proofs.commands.generate.world_response.Goals as goal

pub parsed_world-requires : goal.parsed_world-requires
parsed_world-requires c = (c.package_law.ensures.runs c.args.world c.requires).script

pub recorded_response-requires-clause-valid : goal.recorded_response-requires-clause-valid
recorded_response-requires-clause-valid c = subst ValidWorld (sym c.in_ok-parsed.ensures.world) c.requires

pub returns : goal.returns
returns c =
    subst (λ (w : World). IfOk c.recorded_response.result (λ (response : Response). response_due response ≡ summed_world c.args.orders w))
    c.in_ok-parsed.ensures.world c.recorded_response.ensures
