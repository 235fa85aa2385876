use Rattle.std.proofs.Common.{◌≡◌, drop}
use Rattle.ldv_value.specs.Scan.{before}
use Rattle.script_parse.specs.Tokens.{tokens_from, tokens_of}
use Rattle.script_parse.proofs.scan.tokens.Given as goal

abbrev pub invariant-loop-b : goal.invariant-loop-b
invariant-loop-b l = before l.tokens (tokens_from (drop l.b-index l.line) l.state) ≡ tokens_of l.line
