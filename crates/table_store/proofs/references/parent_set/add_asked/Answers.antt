use Rattle.std.proofs.Common.{◌≡◌, ◌∙◌, ◌||◌, List}
use Rattle.std.specs.BTreeMap.{get}
use Rattle.std.specs.BTreeSet.{contains}
use Rattle.std.specs.Ordering.{nat_cmp}
use Rattle.table_store.specs.Histories.{table_now}
use Rattle.table_store.specs.Types.{TableRow, Value}
use Rattle.table_store.specs.inner.Afterwards.{in_set}
use Rattle.table_store.specs.inner.ParentSet.{asks_in_rows, name_order, put_in_rows}
use Rattle.table_store.proofs.references.parent_set.add_asked.Goals as goal

pub returns : goal.returns
returns c = λ row.
    let own = c.args.own.now in
    let rows : List TableRow = c.args.rows.now in
    let asked : (key : List Value) → in_set c.in_ok-asked.asked key ≡ asks_in_rows own.name own.schema.foreign rows key =
    λ key. c.in_ok-asked.ensures key ∙ (λ j. asks_in_rows (c.name.ensures j) (c.schema.ensures j).foreign rows key) in
    c.in_ok-add_put_rows.ensures row
    ∙ (λ j. contains name_order c.args.found.now row || put_in_rows (λ key. asked key j) (get nat_cmp c.args.given.now) (table_now own) rows row)
