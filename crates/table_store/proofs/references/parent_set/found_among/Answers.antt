use Rattle.std.proofs.Common.{◌∙◌, ◌||◌, ap, List}
use Rattle.std.specs.BTreeMap.{get}
use Rattle.std.specs.List.{list_all}
use Rattle.std.specs.Ordering.{nat_cmp}
use Rattle.table_store.specs.Histories.{table_now, tables_now}
use Rattle.table_store.specs.Types.{Schema, TableRow}
use Rattle.table_store.specs.inner.Afterwards.{is_keyed}
use Rattle.table_store.specs.inner.ParentSet.{asks_in_rows, kept_in_rows, put_in_rows}
use Rattle.table_store.proofs.references.parent_set.found_among.Goals as goal

pub kept_rows-requires : goal.kept_rows-requires
kept_rows-requires c = ap (λ (s : Schema). list_all (is_keyed (tables_now c.args.store.now)) s.foreign) c.schema.ensures ∙ c.requires

pub returns : goal.returns
returns c = λ row.
    let own = c.args.own.now in
    let rows : List TableRow = c.args.rows.now in
    let given = get nat_cmp c.args.given.now in
    c.in_ok-add_asked.ensures row
    ∙ ap (λ b. b || put_in_rows (asks_in_rows own.name own.schema.foreign rows) given (table_now own) rows row)
    (c.in_ok-found.ensures row
    ∙ (λ j. kept_in_rows given (tables_now c.args.store.now) (c.name.ensures j) (c.schema.ensures j).foreign rows row))
