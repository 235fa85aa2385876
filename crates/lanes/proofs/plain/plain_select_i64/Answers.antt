use Rattle.std.proofs.Common.{◌≡◌, ◌∙◌, ◌&&◌, ℕ, Bool, ap, arith, length, w64, SFits}
use Rattle.std.specs.Prelude.{nat_lt}
use mir.Val.{to_z, of_z}
use Rattle.std.proofs.lemmas.Int.{to_z-of_z}
use Rattle.lanes.specs.Sets.{member}
use Rattle.lanes.specs.Selection.{holds_at}
use Rattle.lanes.proofs.PlainLaws.{selected_more, selected_all}
use Rattle.lanes.proofs.plain.plain_select_i64.Goals as goal

pub loop-place-preserved : goal.loop-place-preserved
loop-place-preserved c =
    let holds : ℕ → Bool = holds_at c.args.op c.args.column.now (to_z w64 (of_z w64 c.args.constant)) in
    selected_more holds (member c.loop-place.mask) (member c.select_place.new.mask) c.loop-place.place c.loop-place.invariant c.select_place.ensures

pub returns : goal.returns
returns c n =
    let fit : SFits w64 c.args.constant = c.ranges.constant in
    let end : c.loop-place.place ≡ length c.args.column.now = omega arith in
    let done = simp to_z-of_z at c.loop-place.invariant in
    done n ∙ ap (λ (k : ℕ). nat_lt n k && holds_at c.args.op c.args.column.now c.args.constant n) end ∙ selected_all c.args.op c.args.column.now c.args.constant n
