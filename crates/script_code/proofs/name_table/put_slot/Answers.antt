use Rattle.std.proofs.Common.{◌∙◌, Some}
use Rattle.script_code.proofs.NameTables.{updated_text}
use Rattle.script_code.proofs.name_table.put_slot.Goals as goal

pub returns-clause-ok : goal.returns-clause-ok
returns-clause-ok c =
    updated_text c.args.slots.now c.insert.new.self c.in_ok-key.key c.args.name.now (Some c.args.slot) (c.in_ok-key.ensures.ok ∙ c.as_str.ensures) c.in_ok-insert.ensures.updates
