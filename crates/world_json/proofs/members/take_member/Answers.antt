use Rattle.std.proofs.Common.{option_map, ap, ◌∙◌}
use Rattle.serde_json.specs.View.{view}
use Rattle.world_json.proofs.Lookups.{member_of_text, member_stays}
use Rattle.world_json.proofs.members.take_member.Goals as goal

pub returns-clause-value : goal.returns-clause-value
returns-clause-value c = ap (option_map view) c.remove.ensures.value ∙ member_of_text c.args.members.now c.args.name.now

pub returns-clause-others : goal.returns-clause-others
returns-clause-others c = λ other apart. member_stays c.args.members.now c.remove.new.self c.args.name.now other c.remove.ensures.updates apart
