use Rattle.sql_laws.proofs.AskedTables as asked
use Rattle.sql_laws.proofs.CutDatabases as cuts
use Rattle.sql_laws.proofs.StatementLaws as laws
use Rattle.sql_laws.proofs.law.statement_law.Goals as goal

pub returns-clause-same : goal.returns-clause-same
returns-clause-same c = laws.statement_law

pub returns-clause-cut : goal.returns-clause-cut
returns-clause-cut c = cuts.cut_law

pub returns-clause-tables : goal.returns-clause-tables
returns-clause-tables c = cuts.cut_tables_law

pub returns-clause-parents : goal.returns-clause-parents
returns-clause-parents c = cuts.cut_parents_law

pub returns-clause-asked : goal.returns-clause-asked
returns-clause-asked c = asked.asked_parents_law

pub returns-clause-needs : goal.returns-clause-needs
returns-clause-needs c = asked.asked_needs_law
