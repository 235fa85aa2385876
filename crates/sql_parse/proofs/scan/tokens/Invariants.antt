use Rattle.std.proofs.Common.{◌≡◌, ◌≤◌, ◌<◌, ◌-◌, length, get_or, false}
use Rattle.sql_model.specs.declared.reading.LexState.TheVariants.{Between}
use Rattle.sql_model.specs.TextBytes.{is_blank}
use Rattle.sql_parse.specs.inner.Lexing.{given_from, given_of, tokens_at}
use Rattle.sql_parse.proofs.scan.tokens.Given as goal

abbrev pub invariant-lexemes : goal.invariant-lexemes
invariant-lexemes l = record {
  within : l.at ≤ length l.text;
  full : l.at < length l.text → is_blank (get_or l.text l.at 0) ≡ false;
  read : given_from l.params l.tokens l.place (tokens_at l.text l.at Between) ≡ given_of l.text l.params;
}

abbrev pub decreases-lexemes : goal.decreases-lexemes
decreases-lexemes l = length l.text - l.at
