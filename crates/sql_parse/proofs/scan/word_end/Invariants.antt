use Rattle.std.proofs.Common.{◌≡◌, ◌≤◌, ◌<◌, ◌-◌, length, drop, map, take}
use Rattle.sql_model.specs.declared.reading.LexState.TheVariants.{Between, InWord}
use Rattle.sql_model.specs.TextBytes.{lower_case_of}
use Rattle.sql_parse.specs.inner.Lexing.{tokens_at}
use Rattle.sql_parse.proofs.scan.word_end.Given as goal

abbrev pub invariant-letters : goal.invariant-letters
invariant-letters l = record {
  on : l.at < l.end;
  within : l.end ≤ length l.text;
  read : tokens_at l.text l.at Between ≡ tokens_at l.text l.end (InWord (map lower_case_of (take (l.end - l.at) (drop l.at l.text))));
}

abbrev pub decreases-letters : goal.decreases-letters
decreases-letters l = length l.text - l.end
