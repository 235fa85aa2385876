use Rattle.sql_laws.proofs.DatabaseLaws as laws
use Rattle.sql_laws.proofs.law.database_law.Goals as goal

pub returns-clause-database : goal.returns-clause-database
returns-clause-database c = laws.database_law

pub returns-clause-tables : goal.returns-clause-tables
returns-clause-tables c = laws.tables_law
