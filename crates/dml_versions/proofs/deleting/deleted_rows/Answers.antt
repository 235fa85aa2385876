use Rattle.std.proofs.Common.{◌∙◌}
use Rattle.sql_model.proofs.ValidTables.{table-parts}
use Rattle.table_store.specs.Histories.{tables_now, table_now}
use Rattle.dml_versions.proofs.CheckLaws.{found-valid}
use Rattle.dml_versions.proofs.EntryLaws.{there-of, delete-placed}
use Rattle.dml_versions.proofs.TableLaws.{history-some, table-now}
use Rattle.dml_versions.specs.inner.Finding.{scope_in}
use Rattle.dml_versions.specs.Types.{TheDelete}
use Rattle.dml_versions.proofs.deleting.deleted_rows.Goals as goal

pub table_of-table-requires : goal.table_of-table-requires
table_of-table-requires c =
    history-some c.args.delete.now.table c.args.store.now
    (there-of (tables_now c.args.store.now) c.args.checked.now c.requires.checked (TheDelete c.args.delete.now) c.requires.statement tt)

pub found_rows-requires-clause-placed : goal.found_rows-requires-clause-placed
found_rows-requires-clause-placed c =
    c.in_ok-places.ensures (scope_in c.table_of-table.result.now)
    (c.column_indexes.ensures ∙ delete-placed c.args.store.now c.args.checked.now c.requires.checked c.args.delete.now c.requires.statement c.table_of-table.result.now c.table_of-table.ensures.found)

pub found_rows-requires-clause-unique : goal.found_rows-requires-clause-unique
found_rows-requires-clause-unique c =
    let name = c.args.delete.now.table in
    let table = c.table_of-table.result.now in
    (table-parts (table_now table) (found-valid (tables_now c.args.store.now) c.tell_formed.ensures name (table_now table) (table-now name c.args.store.now table c.table_of-table.ensures.found))).keys

pub returns : goal.returns
returns c = record {
  table = c.table_of-table.result.now;
  there = c.table_of-table.ensures.found;
  held = c.table_of-table.ensures.held;
  found_is = c.in_ok-found.ensures;
}
