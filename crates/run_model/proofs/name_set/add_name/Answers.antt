use Rattle.std.proofs.Common.{◌∙◌}
use Rattle.run_model.proofs.NameLaws.{add_name}
use Rattle.run_model.proofs.name_set.add_name.Goals as goal

pub returns-clause-added : goal.returns-clause-added
returns-clause-added c =
    add_name c.args.names.now c.insert.new.self c.in_ok-key.key c.args.name.now (c.in_ok-key.ensures.ok ∙ c.as_str.ensures) c.in_ok-insert.ensures.updates
