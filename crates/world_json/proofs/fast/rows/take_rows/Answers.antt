use Rattle.world_json.specs.Shape.{array_of, cell_of}
use Rattle.world_json.proofs.Taken.{array_taken}
use Rattle.world_json.proofs.fast.rows.take_rows.Goals as goal

pub returns-clause-taken : goal.returns-clause-taken
returns-clause-taken c =
    array_taken (array_of cell_of) 1 c.args.reader.now c.open_array.new.reader c.take_row_items.new.reader c.in_ok-rows.rows c.in_ok-open_array.ensures c.in_ok-rows.ensures.taken
