use Rattle.std.proofs.Common.{◌≡◌, ◌≤◌, ◌-◌, length}
use Rattle.sql_model.specs.declared.reading.LexState.TheVariants.{Between}
use Rattle.sql_parse.specs.inner.Lexing.{tokens_at}
use Rattle.sql_parse.proofs.scan.blanks_end.Given as goal

abbrev pub invariant-blanks : goal.invariant-blanks
invariant-blanks l = record {
  within : l.at ≤ length l.text;
  onward : l.from ≤ l.at;
  read : tokens_at l.text l.from Between ≡ tokens_at l.text l.at Between;
}

abbrev pub decreases-blanks : goal.decreases-blanks
decreases-blanks l = length l.text - l.at
