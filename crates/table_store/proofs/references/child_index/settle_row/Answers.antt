use Rattle.table_store.proofs.references.child_index.settle_row.Goals as goal

pub returns-in-None : goal.returns-in-None
returns-in-None c = λ all. all
