use Rattle.world_json.proofs.TakenParts.{hex_taken}
use Rattle.world_json.proofs.fast.file.take_hex.Goals as goal

pub returns-clause-taken : goal.returns-clause-taken
returns-clause-taken c = hex_taken c.in_ok-text.text.now c.in_ok-content.content c.args.reader.now c.next_text.new.reader c.in_ok-text.ensures c.in_ok-content.ensures.ok
