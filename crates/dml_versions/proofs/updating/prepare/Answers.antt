use Rattle.std.proofs.Common.{List, map, ap, ◌∙◌}
use Rattle.sql_model.specs.Changes.{updated_row}
use Rattle.sql_model.proofs.ValidTables.{table-parts}
use Rattle.table_store.specs.Histories.{tables_now, table_now}
use Rattle.dml_versions.proofs.CheckLaws.{found-valid}
use Rattle.dml_versions.proofs.EntryLaws.{there-of, update-placed}
use Rattle.dml_versions.proofs.TableLaws.{history-some, table-now}
use Rattle.dml_versions.specs.inner.Finding.{scope_in, row_of}
use Rattle.dml_versions.specs.Types.{TheUpdate, Column, Schema}
use Rattle.dml_versions.proofs.updating.prepare.Goals as goal

pub table_of-table-requires : goal.table_of-table-requires
table_of-table-requires c =
    history-some c.args.update.now.table c.args.store.now
    (there-of (tables_now c.args.store.now) c.args.checked.now c.requires.checked (TheUpdate c.args.update.now) c.requires.statement tt)

pub found_rows-requires-clause-placed : goal.found_rows-requires-clause-placed
found_rows-requires-clause-placed c =
    (c.in_ok-places.ensures (scope_in c.table_of-table.result.now)
    (c.column_indexes.ensures ∙ update-placed c.args.store.now c.args.checked.now c.requires.checked c.args.update.now c.requires.statement c.table_of-table.result.now c.table_of-table.ensures.found)).1

pub found_rows-requires-clause-unique : goal.found_rows-requires-clause-unique
found_rows-requires-clause-unique c =
    let name = c.args.update.now.table in
    let table = c.table_of-table.result.now in
    (table-parts (table_now table) (found-valid (tables_now c.args.store.now) c.tell_formed.ensures name (table_now table) (table-now name c.args.store.now table c.table_of-table.ensures.found))).keys

pub returns : goal.returns
returns c =
    let table = c.table_of-table.result.now in
    let update = c.args.update.now in
    let placed = c.in_ok-places.ensures (scope_in table)
    (c.column_indexes.ensures ∙ update-placed c.args.store.now c.args.checked.now c.requires.checked update c.requires.statement table c.table_of-table.ensures.found) in
    record {
      table = table;
      there = c.table_of-table.ensures.found;
      held = c.table_of-table.ensures.held;
      found_is = c.in_ok-found.ensures;
      rows_are = c.in_ok-rows.ensures (scope_in table) placed.0
          ∙ ap (λ (columns : List Column). map (updated_row (scope_in table) update columns) (map row_of c.in_ok-found.found)) (c.items-columns.ensures ∙ ap (λ (s : Schema). s.columns) c.schema.ensures);
    }
