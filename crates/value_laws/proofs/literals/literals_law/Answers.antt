use Rattle.value_laws.proofs.GoodScripts.{script_good}
use Rattle.value_laws.proofs.GoodStatements.{statement_good}
use Rattle.value_laws.proofs.literals.literals_law.Goals as goal

pub returns-clause-script : goal.returns-clause-script
returns-clause-script c = script_good

pub returns-clause-statement : goal.returns-clause-statement
returns-clause-statement c = statement_good
