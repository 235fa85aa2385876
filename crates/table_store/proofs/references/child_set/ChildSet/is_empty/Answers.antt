use Rattle.std.proofs.lemmas.List.{nil_from_length}
use Rattle.table_store.proofs.ChildSetLaws.{no_pair}
use Rattle.table_store.proofs.references.child_set.ChildSet.is_empty.Goals as goal

pub returns : goal.returns
returns g c = λ is q n.
    let set = c.args.self.now.held in
    no_pair g.K.Ord.cmp set (nil_from_length set.keys (c.is_empty.ensures.0 is)) q n
