use Rattle.std.proofs.Common.{◌∙◌, ap, ◌/◌, ◌%◌, ◌*◌, ◌^◌, ◌<◌, ℕ, List, length, get_or, bit_and, set, w64, arith}
use Rattle.std.specs.Int.{bit_not}
use Rattle.lanes.specs.Sets.{member}
use Rattle.lanes.proofs.BitLaws.{cleared}
use Rattle.slicer.proofs.row_set.clear_bit.Goals as goal

pub returns : goal.returns
returns c = λ n.
    let room : c.args.number / 64 < length c.args.words.now = omega (arith, c.len.ensures, c.if-place-len.false) in
    ap (λ (ws : List ℕ). member ws n) (c.replace.ensures ∙ ap (λ (ws : List ℕ). set c.args.words.now (c.args.number / 64) (bit_and (get_or ws (c.args.number / 64) 0) (bit_not w64 (1 * 2 ^ (c.args.number % 64) % 2 ^ 64)))) c.items.ensures)
    ∙ cleared c.args.words.now c.args.number room n
