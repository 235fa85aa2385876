use Rattle.world_json.proofs.TakenParts.{whole_taken}
use Rattle.world_json.proofs.fast.table.take_whole.Goals as goal

pub returns-in-Some-clause-taken : goal.returns-in-Some-clause-taken
returns-in-Some-clause-taken c = whole_taken c.in_ok-text.text.now c.in-Some.number c.args.reader.now c.next_number.new.reader c.in_ok-text.ensures c.in-Some.ensures
