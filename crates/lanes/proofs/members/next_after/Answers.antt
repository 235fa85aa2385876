use Rattle.std.proofs.Common.{arith, ℕ, subst, sym, Some, ◌*◌, ◌+◌}
use Rattle.lanes.specs.Sets.{IsNext}
use Rattle.lanes.proofs.NextLaws.{found_after, both_empty}
use Rattle.lanes.proofs.members.next_after.Goals as goal

pub returns : goal.returns
returns c =
    let words = c.args.a.now in
    let next : ℕ = c.next_word-next.result in
    let empty = both_empty words c.args.place c.skip_blocks.result next c.skip_blocks.ensures.empty c.next_word-next.ensures.empty in
    let found = found_after words c.args.place next (omega arith) empty (c.next_word-next.ensures.found (omega (arith, c.if-next-a.false))) (c.type_inv.a next).fits in
    subst (λ (n : ℕ). IsNext words (c.args.place * 64) (Some (next * 64 + n))) (sym c.from.ensures) found
