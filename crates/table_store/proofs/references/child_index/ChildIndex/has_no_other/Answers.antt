use Rattle.table_store.proofs.references.child_index.ChildIndex.has_no_other.Goals as goal

pub returns : goal.returns
returns c = λ is place key number. c.is_empty.ensures is (place, record { values = key }) number
