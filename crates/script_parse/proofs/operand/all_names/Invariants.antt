use Rattle.std.proofs.Common.{◌≡◌, drop}
use Rattle.ldv_value.specs.Scan.{before}
use Rattle.script_parse.specs.Forms.{each, name_of}
use Rattle.script_parse.proofs.operand.all_names.Given as goal

abbrev pub invariant-loop-token : goal.invariant-loop-token
invariant-loop-token l = before l.names (each name_of (drop l.token-index l.tokens)) ≡ each name_of l.tokens
