use Rattle.std.proofs.Common.{◌<◌, length}
use Rattle.library_tests.proofs.StoreFacts.{table_has}
use Rattle.sql_model.specs.declared.table.Table.{Table}
use Rattle.library_tests.proofs.times.is_keyed.Goals as goal

pub returns-in-Some : goal.returns-in-Some
returns-in-Some c = λ keyed. table_has (λ (table : Table). 0 < length table.schema.key) c.args.name.now c.args.store.now
    c.in-Some.held.now c.in-Some.ensures.table (c.has_key.ensures keyed)
