use Rattle.std.proofs.Common.{◌≡◌, ◌-◌, ◌∙◌, ap, sym, arith, w64, length, take, drop, List, map, length-drop, SFits}
use Rattle.std.specs.Prelude.{ℤ}
use lib.Lanes.{mask_l, chunk}
use Rattle.std.proofs.lemmas.Int.{to_z-of_z}
use Rattle.std.proofs.lemmas.List.{take_all}
use Rattle.lanes.specs.Selection.{passes}
use Rattle.lanes.proofs.select.word_at.Goals as goal

pub returns-else-column-at-ge64 : goal.returns-else-column-at-ge64
returns-else-column-at-ge64 c =
    let fit : SFits w64 c.args.constant = c.ranges.constant in
    let rest : List ℤ = drop c.args.at c.args.column.now in
    let short : length rest ≡ length c.args.column.now - c.args.at = length-drop c.args.at c.args.column.now in
    let all : take (length c.args.column.now - c.args.at) rest ≡ chunk c.args.at 64 c.args.column.now = take_all (length c.args.column.now - c.args.at) rest (omega arith) ∙ sym (take_all 64 rest (omega arith)) in
    (simp to_z-of_z at c.word_of-else-column-at-ge64.ensures) ∙ ap (λ (l : List ℤ). mask_l (map (passes c.args.op c.args.constant) l)) all
