use Rattle.std.proofs.Common.{◌∙◌, ◌||◌, ap, sym, List, arith}
use Rattle.std.specs.BTreeMap.{get}
use Rattle.std.specs.BTreeSet.{contains}
use Rattle.std.specs.Ordering.{nat_cmp}
use Rattle.std.proofs.lemmas.List.{take_all}
use Rattle.ldv_value.proofs.Booleans.{or-false}
use Rattle.table_store.specs.Histories.{table_now}
use Rattle.table_store.specs.Types.{TableRow}
use Rattle.table_store.specs.inner.Afterwards.{in_set}
use Rattle.table_store.specs.inner.ParentSet.{name_order, put_at, put_in_rows}
use Rattle.table_store.proofs.ParentSetLaws.{any_more}
use Rattle.table_store.proofs.references.parent_set.add_put_rows.Goals as goal

pub loop-row-init : goal.loop-row-init
loop-row-init c = λ row. sym (or-false (contains name_order c.args.found.now row))

pub loop-row-preserved : goal.loop-row-preserved
loop-row-preserved c = λ row.
    any_more (λ (given : TableRow). put_at (in_set c.args.asked.now) (get nat_cmp c.args.given.now) (table_now c.args.own.now) row given.number)
    c.args.rows.now c.loop-row.row-index c.row-item.result
    (contains name_order c.args.found.now row) (contains name_order c.loop-row.found row) (contains name_order c.add_put.new.found row)
    c.loop-row-test.true c.row-item.is (c.loop-row.invariant row) (c.in_ok-add_put.ensures row)

pub returns : goal.returns
returns c = λ row.
    c.loop-row.invariant row
    ∙ ap (λ (rows : List TableRow). contains name_order c.args.found.now row
    || put_in_rows (in_set c.args.asked.now) (get nat_cmp c.args.given.now) (table_now c.args.own.now) rows row)
    (take_all c.loop-row.row-index c.args.rows.now (omega arith))
