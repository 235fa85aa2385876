use Rattle.world_json.proofs.FastWorlds.{bytes_read}
use Rattle.world_json.proofs.fast.read_fast.Goals as goal

pub returns-in_ok-document-in-Ok-clause-read : goal.returns-in_ok-document-in-Ok-clause-read
returns-in_ok-document-in-Ok-clause-read c = bytes_read c.args.bytes.now c.in-Ok.text.now c.in_ok-document-in-Ok.document c.in-Ok.ensures.cases.0 c.in-Ok.ensures.cases.1 c.in_ok-document-in-Ok.ensures.read
