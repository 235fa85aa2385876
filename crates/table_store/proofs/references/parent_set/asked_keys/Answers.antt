use Rattle.std.proofs.Common.{◌∙◌, ◌||◌, ap, List, arith}
use Rattle.std.proofs.lemmas.List.{take_all}
use Rattle.table_store.specs.Types.{TableRow}
use Rattle.table_store.specs.inner.ParentSet.{asks_in_row, asks_in_rows}
use Rattle.table_store.proofs.ChildLaws.{any_next, none_in}
use Rattle.table_store.proofs.references.parent_set.asked_keys.Goals as goal

pub loop-row-init : goal.loop-row-init
loop-row-init c = λ key. none_in c.new-asked.result c.new-asked.ensures.empty key

pub loop-row-preserved : goal.loop-row-preserved
loop-row-preserved c = λ key.
    let asks_it = λ (row : TableRow). asks_in_row c.args.own.now c.args.foreigns.now row.values key in
    c.in_ok-ask_in_row.ensures key
    ∙ ap (λ b. b || asks_it c.row-item.result) (c.loop-row.invariant key)
    ∙ any_next asks_it c.args.rows.now c.loop-row.row-index c.row-item.result c.loop-row-test.true c.row-item.is

pub returns : goal.returns
returns c = λ key.
    c.loop-row.invariant key
    ∙ ap (λ (rows : List TableRow). asks_in_rows c.args.own.now c.args.foreigns.now rows key) (take_all c.loop-row.row-index c.args.rows.now (omega arith))
