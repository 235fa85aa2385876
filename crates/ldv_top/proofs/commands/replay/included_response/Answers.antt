use Rattle.run_model.specs.Package.{own_world}
use Rattle.ldv_top.proofs.commands.replay.included_response.Goals as goal

pub returns : goal.returns
returns c = c.ended_response.ensures (own_world c.args.parsed.cut.bare) c.replay_included_read-ended.ensures
