use Rattle.table_store.specs.Histories.{last_next_number}
use Rattle.table_store.proofs.StandingRows.{slot-has}
use Rattle.query_eval.proofs.key_lookup.slot_of_key.Goals as goal
use Rattle.sql_model.specs.References.{has_key}

pub returns-in-Some : goal.returns-in-Some
returns-in-Some c =
    let table = c.args.table.now in
    slot-has table.slots (last_next_number table.nexts) c.tell_order.ensures (has_key table.schema.key c.args.key.now.values) c.in-Some.number c.in-Some.ensures c.slot_of.result c.slot_of.ensures
