use Rattle.std.proofs.Common.{arith, w64, SFits, ◌∙◌}
use Rattle.std.proofs.lemmas.Int.{to_z-of_z}
use Rattle.lanes.proofs.MaskLaws.{selection_is}
use Rattle.lanes.proofs.select.select_i64.Goals as goal

pub returns : goal.returns
returns c =
    let fit : SFits w64 c.args.constant = c.ranges.constant in
    let done = simp to_z-of_z at c.loop-place.invariant in
    selection_is c.args.op c.args.column.now c.args.constant c.loop-place.mask (c.loop-place.auto.mask ∙ c.requires) (λ k below. done k (omega arith))
