use Rattle.table_store.proofs.ChildSetLaws.{no_pair}
use Rattle.table_store.proofs.references.child_set.ChildSet.new.Goals as goal

pub returns : goal.returns
returns g c = λ q n. no_pair g.K.Ord.cmp c.new.result c.new.ensures.empty q n
