use Rattle.table_store.proofs.references.child_index.settle_slot.Goals as goal

pub returns-in-Err : goal.returns-in-Err
returns-in-Err c = λ all. all

pub returns-in-Ok-None : goal.returns-in-Ok-None
returns-in-Ok-None c = λ all. all
