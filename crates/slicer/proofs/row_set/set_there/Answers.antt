use Rattle.std.proofs.Common.{◌∙◌, ap, ◌/◌, ◌%◌, ◌*◌, ◌^◌, ℕ, List, get_or, bit_or, set}
use Rattle.lanes.specs.Sets.{member}
use Rattle.lanes.proofs.BitLaws.{inserted}
use Rattle.slicer.proofs.row_set.set_there.Goals as goal

pub returns : goal.returns
returns c = λ n.
    ap (λ (ws : List ℕ). member ws n) (c.replace.ensures ∙ ap (λ (ws : List ℕ). set c.args.words.now (c.args.number / 64) (bit_or (get_or ws (c.args.number / 64) 0) (1 * 2 ^ (c.args.number % 64) % 2 ^ 64))) c.items.ensures)
    ∙ inserted c.args.words.now c.args.number c.requires n
