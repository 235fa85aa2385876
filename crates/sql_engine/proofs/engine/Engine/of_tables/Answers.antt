use Rattle.sql_engine.proofs.AskLaws.{started_is}
use Rattle.sql_model.specs.Scope.{catalog_of}
use Rattle.table_store.specs.Histories.{tables_now}
use Rattle.sql_engine.proofs.engine.Engine.of_tables.Goals as goal

pub returns-clause-database : goal.returns-clause-database
returns-clause-database c = started_is c.args.tables c.in_ok-of_tables.field-0 c.in_ok-of_tables.ensures.made c.in_ok-of_tables.ensures.now

pub invariant_of-result : goal.invariant_of-result
invariant_of-result c = c.new.ensures (catalog_of (tables_now c.in_ok-of_tables.field-0))
