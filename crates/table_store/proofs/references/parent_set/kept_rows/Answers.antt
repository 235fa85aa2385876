use Rattle.std.proofs.Common.{◌∙◌, ◌||◌, ap, List, arith}
use Rattle.std.specs.BTreeMap.{get}
use Rattle.std.specs.Ordering.{nat_cmp}
use Rattle.std.proofs.lemmas.List.{take_all}
use Rattle.table_store.specs.Histories.{tables_now}
use Rattle.table_store.specs.Types.{TableRow}
use Rattle.table_store.specs.inner.ParentSet.{kept_in_row, kept_in_rows}
use Rattle.table_store.proofs.ChildLaws.{any_next}
use Rattle.table_store.proofs.ParentSetLaws.{no_name}
use Rattle.table_store.proofs.references.parent_set.kept_rows.Goals as goal

pub loop-row-init : goal.loop-row-init
loop-row-init c = λ row. no_name c.new-found.result c.new-found.ensures.empty row

pub loop-row-preserved : goal.loop-row-preserved
loop-row-preserved c = λ row.
    let is_kept = λ (given : TableRow). kept_in_row (get nat_cmp c.args.given.now) (tables_now c.args.store.now) c.args.own.now c.args.foreigns.now given.values row in
    c.in_ok-add_kept_in_row.ensures row
    ∙ ap (λ b. b || is_kept c.row-item.result) (c.loop-row.invariant row)
    ∙ any_next is_kept c.args.rows.now c.loop-row.row-index c.row-item.result c.loop-row-test.true c.row-item.is

pub returns : goal.returns
returns c = λ row.
    c.loop-row.invariant row
    ∙ ap (λ (rows : List TableRow). kept_in_rows (get nat_cmp c.args.given.now) (tables_now c.args.store.now) c.args.own.now c.args.foreigns.now rows row)
    (take_all c.loop-row.row-index c.args.rows.now (omega arith))
