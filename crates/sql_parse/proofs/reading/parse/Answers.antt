use Rattle.sql_parse.proofs.Results.{reading_is, none_is}
use Rattle.sql_parse.proofs.reading.parse.Goals as goal

pub returns-clause-reading : goal.returns-clause-reading
returns-clause-reading c = reading_is c.args.text.now c.args.params.now c.parse_statement.result c.parse_statement.ensures

pub returns-clause-none : goal.returns-clause-none
returns-clause-none c = none_is c.args.text.now c.args.params.now c.parse_statement.result c.utf8.text c.parse_statement.ensures
