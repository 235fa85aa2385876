use Rattle.table_store.proofs.StoreLaws.{stored_begun}
use Rattle.table_store.proofs.store.Store.of_tables.Goals as goal

pub invariant_of-result : goal.invariant_of-result
invariant_of-result c = stored_begun c.in_ok-catalog.catalog c.args.tables c.in_ok-held.held.items c.requires.database c.requires.distinct c.in_ok-catalog.ensures c.in_ok-held.ensures
