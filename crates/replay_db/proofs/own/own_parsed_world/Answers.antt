use Rattle.std.proofs.Common.{ap, ◌∙◌}
use Rattle.run_model.specs.Start.{start_script}
use Rattle.replay_db.proofs.own.own_parsed_world.Goals as goal

pub returns-clause-parsed : goal.returns-clause-parsed
returns-clause-parsed c = ap start_script c.in_ok-world.ensures ∙ c.requires
