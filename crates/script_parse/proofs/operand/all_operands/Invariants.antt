use Rattle.std.proofs.Common.{◌≡◌, drop}
use Rattle.ldv_value.specs.Scan.{before}
use Rattle.script_parse.specs.Forms.{each, operand_of}
use Rattle.script_parse.proofs.operand.all_operands.Given as goal

abbrev pub invariant-loop-token : goal.invariant-loop-token
invariant-loop-token l = before l.operands (each operand_of (drop l.token-index l.tokens)) ≡ each operand_of l.tokens
