use Rattle.std.proofs.Common.{subst}
use Rattle.sql_check.specs.Gives.{Stops}
use Rattle.sql_engine.proofs.AskLaws.{checked_over}
use Rattle.sql_engine.specs.Types.{Catalog, Checked}
use Rattle.sql_model.specs.Places.{checked_of}
use Rattle.table_store.specs.Histories.{tables_now}
use Rattle.sql_engine.proofs.execute.execute_statement.Goals as goal

pub execute_and_list-requires-clause-checked : goal.execute_and_list-requires-clause-checked
execute_and_list-requires-clause-checked c =
    let checked : Checked = record { statement = c.args.statement; places = c.in-Ok.places } in
    (checked_over c.args.statement (tables_now c.args.store.now) c.catalog.result.now checked c.catalog.ensures c.in-Ok.ensures).0

pub record_refusal-requires : goal.record_refusal-requires
record_refusal-requires c =
    subst (λ (catalog : Catalog). Stops c.in-Err.stop (checked_of c.args.statement catalog)) c.catalog.ensures c.in-Err.ensures
