use Rattle.world_json.proofs.TakenParts.{text_taken}
use Rattle.world_json.proofs.fast.items.Utf8FromTokens.from_tokens.Goals as goal

pub returns-clause-taken : goal.returns-clause-taken
returns-clause-taken c = text_taken c.in_ok-text.text.now c.in_ok-copy.copy c.args.reader.now c.next_text.new.reader c.in_ok-text.ensures c.in_ok-copy.ensures.text
