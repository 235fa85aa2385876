use Rattle.std.proofs.Common.{◌∙◌, ap, List, arith}
use Rattle.std.proofs.lemmas.List.{take_all}
use Rattle.table_store.specs.inner.ParentRows.{last_row_with}
use Rattle.table_store.specs.Types.{TableRow}
use Rattle.table_store.proofs.ParentLaws.{last_more, last_start}
use Rattle.table_store.proofs.keys.given.given_keys.Goals as goal

pub loop-row-init : goal.loop-row-init
loop-row-init c = λ wanted. last_start c.new-given.result c.new-given.ensures.empty wanted

pub loop-row-preserved : goal.loop-row-preserved
loop-row-preserved c = λ wanted.
    last_more c.args.key.now c.args.rows.now c.loop-row.row-index c.row-item.result c.loop-row.given c.insert.new.self c.in_ok-made.made c.loop-row-test.true c.row-item.is
    c.in_ok-made.ensures c.in_ok-insert.ensures.updates c.loop-row.invariant wanted

pub returns : goal.returns
returns c = λ wanted.
    c.loop-row.invariant wanted
    ∙ ap (λ (rows : List TableRow). last_row_with c.args.key.now rows wanted) (take_all c.loop-row.row-index c.args.rows.now (omega arith))
