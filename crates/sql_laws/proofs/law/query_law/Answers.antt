use Rattle.sql_laws.proofs.QueryLaws as laws
use Rattle.sql_laws.proofs.law.query_law.Goals as goal

pub returns : goal.returns
returns c = laws.query_law
