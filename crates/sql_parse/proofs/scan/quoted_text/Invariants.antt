use Rattle.std.proofs.Common.{◌≡◌, ◌≤◌, ◌<◌, ◌-◌, length}
use Rattle.sql_model.specs.declared.reading.LexState.TheVariants.{Between, InText}
use Rattle.sql_parse.specs.inner.Lexing.{tokens_at}
use Rattle.sql_parse.proofs.scan.quoted_text.Given as goal

abbrev pub invariant-bytes : goal.invariant-bytes
invariant-bytes l = record {
  on : l.at < l.end;
  within : l.end ≤ length l.text;
  read : tokens_at l.text l.at Between ≡ tokens_at l.text l.end (InText l.content);
}

abbrev pub decreases-bytes : goal.decreases-bytes
decreases-bytes l = length l.text - l.end
