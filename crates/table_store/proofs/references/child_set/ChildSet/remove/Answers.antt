use Rattle.table_store.proofs.ChildSetLaws.{pair_left}
use Rattle.table_store.proofs.references.child_set.ChildSet.remove.Goals as goal

pub returns : goal.returns
returns g c = λ q n other is. pair_left g.K.Ord.cmp c.args.self.now.held c.remove.new.self (c.args.key, c.args.number) c.remove.ensures.updates q n other is
