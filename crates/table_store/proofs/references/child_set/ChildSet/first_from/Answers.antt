use Rattle.std.proofs.Common.{subst, sym, ℕ, Option}
use Rattle.std.specs.Map.Iter.{deref}
use Rattle.std.proofs.lemmas.Map.Iter.{rest_all, rest_more}
use Rattle.table_store.specs.inner.ChildPairs.{IsFirstFrom, has_pair}
use Rattle.table_store.proofs.ChildSetLaws.{first_none, first_some}
use Rattle.table_store.proofs.references.child_set.ChildSet.first_from.Goals as goal

pub returns-in-None : goal.returns-in-None
returns-in-None g c =
    let r = c.range-pairs.result in
    first_none g.K.Ord.cmp g.met.K.Ord.total c.args.self.now.held c.args.key c.args.from r (c.range-pairs.ensures.in_range tt)
    (rest_all deref r c.next.new.self c.next.result c.in-None.is c.next.ensures.steps)

pub returns : goal.returns
returns g c =
    let cmp = g.K.Ord.cmp in
    let set = c.args.self.now.held in
    let r = c.range-pairs.result in
    subst (λ (o : Option ℕ). IsFirstFrom (has_pair cmp set c.args.key) c.args.from o) (sym c.number_at.ensures)
    (first_some cmp g.met.K.Ord.total set c.args.key c.args.from r (c.range-pairs.ensures.in_range tt) c.in-Some.pair.now c.next.new.self
    (rest_more deref r c.next.new.self c.next.result c.in-Some.pair c.in-Some.is c.next.ensures.steps))
