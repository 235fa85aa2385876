use Rattle.std.proofs.Common.{◌≡◌, ℕ, length, subst, arith, bit_or}
use Rattle.lanes.specs.inner.Merged.{IsMergedTo}
use Rattle.lanes.proofs.SetLaws.{union_is}
use Rattle.lanes.proofs.plain.plain_or_into.Goals as goal

pub returns : goal.returns
returns c =
    let end : c.loop-place.place ≡ length c.args.a.now = omega arith in
    union_is c.args.a.now c.args.b.now c.loop-place.a c.requires (subst (λ (k : ℕ). IsMergedTo bit_or c.args.a.now c.args.b.now c.loop-place.a k) end c.loop-place.invariant)
