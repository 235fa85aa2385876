use Rattle.script_parse.proofs.Cut.{stripped}
use Rattle.script_parse.proofs.split.without_return.Goals as goal

pub returns-in-Some : goal.returns-in-Some
returns-in-Some c = stripped c.args.line.now c.in-Some.front.now c.in-Some.ensures.cases.0 c.in-Some.ensures.cases.1
