use Rattle.std.proofs.Common.{arith, count_ones, length, ap, ◌∙◌, sum_by, ◌≡◌, ℕ, take}
use Rattle.std.proofs.lemmas.List.{take_all}
use Rattle.std.proofs.lemmas.List.Sums.{sum_by_more_le, sum_by-take-drop}
use Rattle.lanes.proofs.CountLaws.{ones_bound}
use Rattle.lanes.proofs.members.count_rest.Goals as goal

pub overflow_add-total : goal.overflow_add-total
overflow_add-total c = record { fits = omega (arith, sum_by_more_le count_ones c.args.a.now c.loop-place.place 0 (omega arith), ones_bound c.args.a.now c.type_inv.a, c.loop-place.invariant) }

pub returns : goal.returns
returns c =
    let words = c.args.a.now in
    let end : c.loop-place.place ≡ length words = omega arith in
    let whole : sum_by count_ones (take c.loop-place.place words) ≡ sum_by count_ones words = ap (λ (k : ℕ). sum_by count_ones (take k words)) end ∙ ap (sum_by count_ones) (take_all (length words) words (omega arith)) in
    omega (arith, sum_by-take-drop count_ones words c.args.from, whole, c.loop-place.invariant)
