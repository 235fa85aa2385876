use Rattle.world_json.proofs.Columns.{table_name, known_more}
use Rattle.world_json.proofs.name_rules.table_set.Goals as goal

pub loop-table-preserved : goal.loop-table-preserved
loop-table-preserved c = known_more table_name c.loop-table.known c.insert.new.self c.as_str.result c.items-table-items.result.now c.loop-table.table-index c.table-item.result
    c.loop-table-test.true c.table-item.is c.as_str.ensures c.in_ok-insert.ensures.updates.0 c.loop-table.invariant
