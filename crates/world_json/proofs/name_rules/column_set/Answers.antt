use Rattle.world_json.proofs.Columns.{column_name, known_more}
use Rattle.world_json.proofs.name_rules.column_set.Goals as goal

pub loop-column-preserved : goal.loop-column-preserved
loop-column-preserved c = known_more column_name c.loop-column.known c.insert.new.self c.as_str.result c.items-column-items.result.now c.loop-column.column-index c.column-item.result
    c.loop-column-test.true c.column-item.is c.as_str.ensures c.in_ok-insert.ensures.updates.0 c.loop-column.invariant
