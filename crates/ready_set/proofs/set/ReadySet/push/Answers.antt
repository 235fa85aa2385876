use Rattle.std.proofs.Common.{◌<◌, ◌∙◌, ◌++◌, ◌∷◌, [], List, Bool, refl, ap, arith}
use Rattle.ready_set.proofs.SeenLaws.{seen_flags, seen_room, seen_made, seen_with, kept_small, flags-push, kept-push}
use Rattle.ready_set.proofs.set.ReadySet.push.Goals as goal

pub put-requires-clause-few : goal.put-requires-clause-few
put-requires-clause-few c =
    let a = c.self.inside in
    kept_small a.counts.items a.room a.height a.made c.self.invariant

pub put-requires-clause-within : goal.put-requires-clause-within
put-requires-clause-within c =
    let a = c.self.inside in
    let free : a.made < a.room = omega (arith, seen_made a.counts.items a.room a.made c.args.self.now c.self.view_is, seen_room a.counts.items a.room a.made c.args.self.now c.self.view_is, c.requires) in
    omega (arith, free, c.self.invariant.within)

pub invariant_of-self : goal.invariant_of-self
invariant_of-self c =
    let a = c.self.inside in
    let free : a.made < a.room = omega (arith, seen_made a.counts.items a.room a.made c.args.self.now c.self.view_is, seen_room a.counts.items a.room a.made c.args.self.now c.self.view_is, c.requires) in
    kept-push a.room a.made a.made c.args.is_in a.counts.items c.put.new.counts.items c.put.ensures a.height c.self.invariant refl free

pub returns : goal.returns
returns c =
    let a = c.self.inside in
    seen_with _ _ _ _ (flags-push a.room a.made a.made c.args.is_in a.counts.items c.put.new.counts.items c.put.ensures refl ∙ ap (λ (l : List Bool). l ++ c.args.is_in ∷ []) (seen_flags a.counts.items a.room a.made c.args.self.now c.self.view_is)) (seen_room a.counts.items a.room a.made c.args.self.now c.self.view_is)
