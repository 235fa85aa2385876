use Rattle.table_store.proofs.ChildSetLaws.{pair_kept, pair_same}
use Rattle.table_store.proofs.references.child_set.ChildSet.add.Goals as goal

pub returns-clause-kept : goal.returns-clause-kept
returns-clause-kept g c = λ q n is. pair_kept g.K.Ord.cmp c.args.self.now.held c.insert.new.self (c.args.key, c.args.number) c.in_ok-insert.ensures.updates q n is

pub returns-in_err-insert-clause-kept : goal.returns-in_err-insert-clause-kept
returns-in_err-insert-clause-kept g c = λ q n is. pair_same g.K.Ord.cmp c.args.self.now.held c.insert.new.self c.in_err-insert.ensures.err q n is

pub returns-clause-ok : goal.returns-clause-ok
returns-clause-ok g c = c.in_ok-insert.ensures.updates.1
