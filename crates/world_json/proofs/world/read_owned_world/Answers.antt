use Rattle.json_bytes.specs.Reading.{json_of}
use Rattle.world_json.proofs.FastWorlds.{fast_world, fast_fault}
use Rattle.world_json.proofs.world.read_owned_world.Goals as goal

pub returns-in-Ok-clause-world : goal.returns-in-Ok-clause-world
returns-in-Ok-clause-world c = fast_world (json_of c.args.bytes) c.in-Ok.document c.world_of_document.result c.in-Ok.ensures.read c.world_of_document.ensures.world

pub returns-in-Ok-clause-fault : goal.returns-in-Ok-clause-fault
returns-in-Ok-clause-fault c = fast_fault (json_of c.args.bytes) c.in-Ok.document c.world_of_document.result c.in-Ok.ensures.read c.world_of_document.ensures.fault
