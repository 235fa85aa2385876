use Rattle.std.proofs.Common.{◌≡◌, ◌<◌, ◌*◌, ◌+◌, ◌^◌, ℕ, List, subst, arith}
use Rattle.std.proofs.lemmas.Nat.{pow_pos}
use Rattle.ready_set.specs.inner.Tree.{IsKept, IsWidened}
use Rattle.ready_set.proofs.SeenLaws.{seen_made, seen_room, widen_small, widen_low, kept-widen, length-flags_of}
use Rattle.ready_set.proofs.set.ReadySet.reserve.Goals as goal

pub returns-then-self-clause-room : goal.returns-then-self-clause-room
returns-then-self-clause-room c =
    let a = c.self.inside in
    omega (arith, seen_made a.counts.items a.room a.made c.args.self.now c.self.view_is, seen_room a.counts.items a.room a.made c.args.self.now c.self.view_is, c.if-self.true)

-- all the room is taken
pub widen_tree-requires-clause-few : goal.widen_tree-requires-clause-few
widen_tree-requires-clause-few c =
    let a = c.self.inside in
    let few : a.room < 2 ^ 30 = omega (arith, seen_made a.counts.items a.room a.made c.args.self.now c.self.view_is, c.if-self.false, c.requires) in
    widen_small a.room a.height a.made a.counts.items c.self.invariant few

pub invariant_of-self : goal.invariant_of-self
invariant_of-self c =
    let a = c.self.inside in
    let few : a.room < 2 ^ 30 = omega (arith, seen_made a.counts.items a.room a.made c.args.self.now c.self.view_is, c.if-self.false, c.requires) in
    let wide : IsWidened a.room a.counts.items c.in_ok-wide.wide.items =
    subst (λ (xs : List ℕ). IsWidened a.room xs c.in_ok-wide.wide.items) c.deref.ensures.value c.in_ok-wide.ensures in
    let grown : IsKept c.in_ok-wide.wide.items (2 * a.room) (a.height + 1) a.made =
    kept-widen a.room a.height a.made a.counts.items c.in_ok-wide.wide.items c.self.invariant wide (widen_low a.room a.height a.made a.counts.items c.self.invariant few) in
    let twice : 2 * a.room ≡ a.room * 2 = omega arith in
    subst (λ (n : ℕ). IsKept c.in_ok-wide.wide.items n (a.height + 1) a.made) twice grown

pub returns-clause-room : goal.returns-clause-room
returns-clause-room c =
    let a = c.self.inside in
    omega (arith, length-flags_of c.in_ok-wide.wide.items (a.room * 2) a.made, c.self.invariant.within, c.self.invariant.power, pow_pos a.height)
