use Rattle.std.proofs.Common.{arith}
use Rattle.ready_set.proofs.SeenLaws.{seen_made, kept_small}
use Rattle.ready_set.proofs.set.ReadySet.made_count.Goals as goal

pub returns-clause-made : goal.returns-clause-made
returns-clause-made c = seen_made c.self.inside.counts.items c.self.inside.room c.self.inside.made c.args.self.now c.self.view_is

pub returns-clause-few : goal.returns-clause-few
returns-clause-few c =
    let a = c.self.inside in
    omega (arith, seen_made a.counts.items a.room a.made c.args.self.now c.self.view_is, c.self.invariant.within, kept_small a.counts.items a.room a.height a.made c.self.invariant)
