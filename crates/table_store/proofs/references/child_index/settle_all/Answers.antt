use Rattle.table_store.proofs.references.child_index.settle_all.Goals as goal

pub returns-then-is_empty : goal.returns-then-is_empty
returns-then-is_empty c = λ all. all

pub loop-number-init : goal.loop-number-init
loop-number-init c = λ all. all

pub loop-number-preserved : goal.loop-number-preserved
loop-number-preserved c = λ all. c.settle_row.ensures (c.loop-number.invariant all)
