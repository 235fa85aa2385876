use Rattle.script_code.proofs.NameTables.{named_pushed, slot_added, keeps_before}
use Rattle.script_code.proofs.name_table.add_name.Goals as goal

pub returns-in-Ok-clause-named : goal.returns-in-Ok-clause-named
returns-in-Ok-clause-named c =
    named_pushed c.args.slots.now c.put_slot.new.slots c.args.names.now c.push.new.self c.args.name.now c.in_ok-copy.copy c.len-slot.result
    c.requires.named c.requires.absent c.len-slot.ensures c.in_ok-copy.ensures c.in-Ok.ensures.ok c.in_ok-put_slot.ensures.ok

pub returns-in-Ok-clause-slot : goal.returns-in-Ok-clause-slot
returns-in-Ok-clause-slot c =
    slot_added c.args.names.now c.push.new.self c.args.name.now c.in_ok-copy.copy c.in-Ok.ensures.ok c.in_ok-copy.ensures
    c.len-slot.result c.len-slot.ensures c.requires.absent

pub returns-in-Ok-clause-keeps : goal.returns-in-Ok-clause-keeps
returns-in-Ok-clause-keeps c =
    keeps_before c.args.names.now c.push.new.self c.args.name.now c.in_ok-copy.copy c.in-Ok.ensures.ok c.in_ok-copy.ensures c.requires.absent
