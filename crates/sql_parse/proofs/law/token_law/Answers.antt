use Rattle.sql_model.specs.declared.reading.LexState.TheVariants.{Between}
use Rattle.sql_parse.proofs.TokensRead.{tokens_complete}
use Rattle.sql_parse.proofs.TokensSound.{tokens_sound}
use Rattle.sql_parse.proofs.law.token_law.Goals as goal

pub returns : goal.returns
returns c = λ text ts u. (tokens_sound text Between ts, tokens_complete ts text u)
