use Rattle.std.proofs.Common.{◌∙◌, ap, sym, Some}
use Rattle.std.specs.BTreeMap.{get}
use Rattle.std.specs.BTreeSet.{contains}
use Rattle.std.specs.Ordering.{nat_cmp}
use Rattle.table_store.specs.Histories.{tables_now}
use Rattle.table_store.specs.inner.ParentSet.{name_order}
use Rattle.table_store.proofs.ParentSetLaws.{kept_none, kept_some}
use Rattle.table_store.proofs.references.parent_set.add_kept.Goals as goal

pub returns-in-None : goal.returns-in-None
returns-in-None c = λ row.
    kept_none (get nat_cmp c.args.given.now) (tables_now c.args.store.now) c.args.own.now c.args.values.now c.args.foreign.now
    (contains name_order c.args.found.now row) row (sym c.in-None.is ∙ c.in_ok-kept.ensures)

pub returns-in_ok-add_row-in-Some : goal.returns-in_ok-add_row-in-Some
returns-in_ok-add_row-in-Some c = λ row.
    c.in_ok-add_row-in-Some.ensures row
    ∙ kept_some (get nat_cmp c.args.given.now) (tables_now c.args.store.now) c.args.own.now c.args.values.now c.args.foreign.now
    (contains name_order c.args.found.now row) row c.in_ok-table-in-Some.table c.in-Some.number (sym c.in-Some.is ∙ c.in_ok-kept.ensures) c.in_ok-table-in-Some.ensures
