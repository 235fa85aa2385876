use Rattle.value_laws.proofs.GoodAnswers as answers
use Rattle.value_laws.proofs.GoodScripts.{script_good}
use Rattle.value_laws.proofs.GoodStatements.{statement_good}
use Rattle.value_laws.proofs.LogsGood.{logs_good}
use Rattle.value_laws.proofs.steps.steps_law.Goals as goal

pub returns : goal.returns
returns c = record { logs = logs_good script_good statement_good answers.answers_law answers.no_statement_law }
