use Rattle.std.proofs.Common.{◌≡◌, ◌^◌, ◌*◌, ◌%◌, ◌-◌, ℕ, arith, ap, sym, subst, bit_and, Some, w64}
use Rattle.std.specs.Int.{trailing_zeros}
use Rattle.lanes.specs.Sets.{IsLowest}
use lib.Bits.{and_le_l}
use Rattle.std.proofs.lemmas.Nat.Bits.{ones_shl}
use Rattle.lanes.proofs.NextLaws.{none_lowest, some_lowest}
use Rattle.lanes.proofs.members.lowest_from.Goals as goal

pub returns-then-high-eq0 : goal.returns-then-high-eq0
returns-then-high-eq0 c = none_lowest c.args.word c.args.from _ c.requires (ap (bit_and c.args.word) (ones_shl 64 c.args.from (omega arith))) c.if-high-eq0.true

pub returns-else-high-eq0 : goal.returns-else-high-eq0
returns-else-high-eq0 c =
    let word : ℕ = c.args.word in
    let from : ℕ = c.args.from in
    let high : ℕ = bit_and word (18446744073709551615 * 2 ^ from % 18446744073709551616) in
    let is : high ≡ bit_and word (2 ^ 64 - 2 ^ from) = ap (bit_and word) (ones_shl 64 from (omega arith)) in
    let found : IsLowest word from (Some (trailing_zeros w64 high)) = some_lowest word from high c.requires is (omega (arith, c.if-high-eq0.false)) (omega (arith, and_le_l word (18446744073709551615 * 2 ^ from % 18446744073709551616))) in
    subst (λ (n : ℕ). IsLowest word from (Some n)) (sym c.from.ensures) found
