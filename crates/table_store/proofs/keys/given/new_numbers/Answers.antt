use Rattle.std.proofs.Common.{◌∙◌, ap, List, arith}
use Rattle.std.proofs.lemmas.List.{take_all}
use Rattle.sql_model.specs.Changes.{numbered_rows}
use Rattle.table_store.specs.inner.ParentRows.{last_row_with}
use Rattle.table_store.specs.Types.{Value}
use Rattle.table_store.proofs.JudgeLaws.{last_new}
use Rattle.table_store.proofs.ParentLaws.{last_start}
use Rattle.table_store.proofs.keys.given.new_numbers.Goals as goal

pub loop-row-init : goal.loop-row-init
loop-row-init c = record {
  given = λ wanted. last_start c.new-given.result c.new-given.ensures.empty wanted;
  number = omega arith;
}

pub loop-row-preserved : goal.loop-row-preserved
loop-row-preserved c = record {
  given = λ wanted.
      last_new c.args.key.now c.args.next c.loop-row.number c.args.rows.now c.loop-row.row-index c.row-item.result c.loop-row.given c.insert.new.self c.in_ok-made.made
      c.loop-row-test.true c.row-item.is c.in_ok-made.ensures c.loop-row.invariant.number c.in_ok-insert.ensures.updates c.loop-row.invariant.given wanted;
  number = omega (arith, c.loop-row.invariant.number);
}

pub returns : goal.returns
returns c = λ wanted.
    c.loop-row.invariant.given wanted
    ∙ ap (λ (rows : List (List Value)). last_row_with c.args.key.now (numbered_rows c.args.next rows) wanted) (take_all c.loop-row.row-index c.args.rows.now (omega arith))
