use Rattle.value_laws.proofs.GoodAnswers as laws
use Rattle.value_laws.proofs.answers.answers_law.Goals as goal

pub returns-clause-answers : goal.returns-clause-answers
returns-clause-answers c = laws.answers_law

pub returns-clause-none : goal.returns-clause-none
returns-clause-none c = laws.no_statement_law
