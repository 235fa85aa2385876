use Rattle.table_store.proofs.references.child_index.ChildIndex.has_no_int.Goals as goal

pub returns : goal.returns
returns c = λ is place int number. c.is_empty.ensures is (place, int) number
