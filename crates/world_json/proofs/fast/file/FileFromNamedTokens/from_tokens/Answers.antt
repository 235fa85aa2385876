use Rattle.world_json.proofs.TakenParts.{file_taken}
use Rattle.world_json.proofs.fast.file.FileFromNamedTokens.from_tokens.Goals as goal

pub returns-in-Ok-clause-taken : goal.returns-in-Ok-clause-taken
returns-in-Ok-clause-taken c = file_taken c.args.name c.in-Ok.content c.args.reader.now c.take_content.new.reader c.in-Ok.ensures.taken
