use Rattle.sql_parse.proofs.ExpressionsLaw.{expression_sound}
use Rattle.sql_parse.proofs.ExpressionsBack.{expression_back, expression_one}
use Rattle.sql_parse.proofs.law.expression_law.Goals as goal

pub returns : goal.returns
returns c = record { read = expression_sound; back = expression_back; one = expression_one }
