use Rattle.script_code.proofs.NameTables.{taken_text}
use Rattle.script_code.proofs.name_table.take_slot.Goals as goal

pub returns : goal.returns
returns c = taken_text c.args.slots.now c.remove.new.self c.as_str.result.now c.args.name.now c.as_str.ensures c.remove.ensures.updates
