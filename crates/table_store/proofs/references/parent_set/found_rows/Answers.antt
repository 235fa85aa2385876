use Rattle.std.proofs.Common.{◌≡◌, ◌∙◌, ◌||◌, ap, ℕ, List}
use Rattle.std.specs.BTreeMap.{get}
use Rattle.std.specs.Ordering.{nat_cmp}
use Rattle.table_store.specs.Histories.{table_now, tables_now}
use Rattle.table_store.specs.Types.{Schema, TableRow}
use Rattle.table_store.specs.inner.ParentSet.{asks_in_rows, kept_in_rows, key_put, put_in_rows}
use Rattle.table_store.proofs.references.parent_set.found_rows.Goals as goal

pub returns : goal.returns
returns c = λ row.
    let own = c.args.own.now in
    let rows : List TableRow = c.args.rows.now in
    let fs = own.schema.foreign in
    let given : (n : ℕ) → get nat_cmp c.in_ok-given.given n ≡ key_put own.schema.key rows n = λ n. c.in_ok-given.ensures n ∙ ap (λ (s : Schema). key_put s.key rows n) c.schema.ensures in
    c.in_ok-found.ensures row
    ∙ (λ j. kept_in_rows (λ n. given n j) (tables_now c.args.store.now) own.name fs rows row
    || put_in_rows (asks_in_rows own.name fs rows) (λ n. given n j) (table_now own) rows row)
