use Rattle.world_json.proofs.Taken.{array_taken}
use Rattle.world_json.proofs.fast.items.take_array.Goals as goal

pub returns-clause-taken : goal.returns-clause-taken
returns-clause-taken g c =
    array_taken g.X.FromTokens.of_item g.X.FromTokens.levels c.args.reader.now c.open_array.new.reader c.take_items.new.reader c.in_ok-items.items c.in_ok-open_array.ensures c.in_ok-items.ensures.taken
