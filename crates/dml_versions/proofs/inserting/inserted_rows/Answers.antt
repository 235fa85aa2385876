use Rattle.std.proofs.Common.{List, map, ap, ◌∙◌}
use Rattle.sql_model.specs.Scope.{catalog_of}
use Rattle.table_store.specs.Histories.{tables_now}
use Rattle.dml_versions.proofs.CheckLaws.{values-plain}
use Rattle.dml_versions.proofs.EntryLaws.{check-of, there-of}
use Rattle.dml_versions.proofs.MadeLaws.{rows-new}
use Rattle.dml_versions.proofs.TableLaws.{history-some}
use Rattle.dml_versions.specs.inner.Making.{values_from, places_given}
use Rattle.dml_versions.specs.Types.{TheInsert, Column, Schema}
use Rattle.dml_versions.proofs.inserting.inserted_rows.Goals as goal

pub table_of-table-requires : goal.table_of-table-requires
table_of-table-requires c =
    history-some c.args.insert.now.table c.args.store.now
    (there-of (tables_now c.args.store.now) c.args.checked.now c.requires.checked (TheInsert c.args.insert.now) c.requires.statement tt)

pub new_rows-requires : goal.new_rows-requires
new_rows-requires c =
    values-plain c.args.insert.now (catalog_of (tables_now c.args.store.now))
    (check-of (tables_now c.args.store.now) c.args.checked.now c.requires.checked (TheInsert c.args.insert.now) c.requires.statement)

pub returns : goal.returns
returns c =
    let insert = c.args.insert.now in
    let table = c.table_of-table.result.now in
    record {
      table = table;
      there = c.table_of-table.ensures.found;
      held = c.table_of-table.ensures.held;
      rows_are = c.in_ok-rows.ensures
          ∙ ap (λ (columns : List Column). map (values_from (places_given insert.columns columns)) insert.rows) (c.items-columns.ensures ∙ ap (λ (s : Schema). s.columns) c.schema.ensures)
          ∙ rows-new insert.columns table.schema.columns insert.rows;
    }
