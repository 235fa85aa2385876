use Rattle.script_parse.proofs.BadLines.{none_is, within_is}
use Rattle.script_parse.proofs.parse.parse_script.Goals as goal

pub returns-clause-none : goal.returns-clause-none
returns-clause-none c = none_is c.args.bytes.now c.parse_lines.result c.parse_lines.ensures.line

pub returns-clause-within : goal.returns-clause-within
returns-clause-within c = within_is c.args.bytes.now c.parse_lines.result c.parse_lines.ensures.line
