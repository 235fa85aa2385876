use Rattle.std.proofs.Common.{◌≡◌, ℕ, length, subst, arith}
use Rattle.lanes.specs.inner.Merged.{IsMergedTo, without}
use Rattle.lanes.proofs.SetLaws.{difference_is}
use Rattle.lanes.proofs.plain.plain_minus_into.Goals as goal

pub returns : goal.returns
returns c =
    let end : c.loop-place.place ≡ length c.args.a.now = omega arith in
    difference_is c.args.a.now c.args.b.now c.loop-place.a c.requires c.type_inv.b (subst (λ (k : ℕ). IsMergedTo without c.args.a.now c.args.b.now c.loop-place.a k) end c.loop-place.invariant)
