use Rattle.table_store.proofs.references.child_index.settle_by.Goals as goal

pub returns-in-Err : goal.returns-in-Err
returns-in-Err c = λ foreigns there all. all
