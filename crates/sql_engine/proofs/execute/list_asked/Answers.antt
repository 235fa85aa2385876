use Rattle.std.proofs.Common.{subst, sym}
use Rattle.sql_engine.proofs.StoreLaws.{distinct_names}
use Rattle.sql_engine.specs.inner.Taking.{AreDistinct}
use Rattle.sql_engine.specs.Types.{Catalog}
use Rattle.sql_engine.proofs.execute.list_asked.Goals as goal

pub tables_of-tables-requires-clause-distinct : goal.tables_of-tables-requires-clause-distinct
tables_of-tables-requires-clause-distinct c =
    subst (λ (catalog : Catalog). AreDistinct catalog.names) (sym c.catalog.ensures)
    (distinct_names c.args.store.now c.tell_formed.ensures.database)
