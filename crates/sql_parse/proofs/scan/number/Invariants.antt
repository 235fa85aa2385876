use Rattle.std.proofs.Common.{◌≡◌, ◌≤◌, ◌<◌, ◌-◌, length}
use Rattle.sql_model.specs.declared.reading.LexState.TheVariants.{Between, InNumber}
use Rattle.sql_parse.specs.inner.Lexing.{tokens_at}
use Rattle.sql_parse.proofs.scan.number.Given as goal

abbrev pub invariant-digits : goal.invariant-digits
invariant-digits l = record {
  on : l.at < l.end;
  within : l.end ≤ length l.text;
  read : tokens_at l.text l.at Between ≡ tokens_at l.text l.end (InNumber l.number);
}

abbrev pub decreases-digits : goal.decreases-digits
decreases-digits l = length l.text - l.end
