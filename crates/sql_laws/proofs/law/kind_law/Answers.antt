use Rattle.sql_laws.proofs.KindLaws as laws
use Rattle.sql_laws.proofs.law.kind_law.Goals as goal

pub returns-clause-kinds : goal.returns-clause-kinds
returns-clause-kinds c = laws.kind_law

pub returns-clause-row : goal.returns-clause-row
returns-clause-row c = laws.row_law
