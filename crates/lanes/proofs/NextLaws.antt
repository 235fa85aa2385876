-- Which member comes next.
use Rattle.std.proofs.Common.{◌≡◌, ◌==◌, ℕ, ◌+◌, ◌-◌, ◌*◌, ◌/◌, ◌%◌, ◌^◌, ◌<◌, ◌≤◌, inl, inr, false, Some, None, List, length, get_or, min, ap, sym, ◌∙◌, arith, bit_and, w64}
use Rattle.std.specs.Int.{bit_at, trailing_zeros}
use Rattle.std.proofs.lemmas.Bool.{cases_lt}
use Rattle.std.proofs.lemmas.Nat.Bits.{bit_at-lt, bit_at-zero, bit_at_and, bit_at_mask_inside, bit_at_mask_below, bit_at-trailing_zeros}
use Rattle.lanes.specs.Sets.{member, IsLowest, IsNext}
use Rattle.lanes.proofs.SetLaws.{no_member}

high_ones : ℕ → ℕ
high_ones from = 2 ^ 64 - 2 ^ from

min_one : (p : ℕ) → p < 2 → min p 1 ≡ p
min_one p small = omega arith

min_zero : (p : ℕ) → min p 0 ≡ 0
min_zero p = omega arith

module _ (word from high : ℕ) (below : from < 64) (is : high ≡ bit_and word (2 ^ 64 - 2 ^ from)) where
  bit_is : (i : ℕ) → bit_at high i ≡ min (bit_at word i) (bit_at (2 ^ 64 - 2 ^ from) i)
  bit_is i = ap (λ (n : ℕ). bit_at n i) is ∙ bit_at_and word (2 ^ 64 - 2 ^ from) i

  kept : (i : ℕ) → from ≤ i → i < 64 → bit_at high i ≡ bit_at word i
  kept i on within = bit_is i ∙ ap (min (bit_at word i)) (bit_at_mask_inside from 64 i on within) ∙ min_one (bit_at word i) (bit_at-lt word i)

  cleared : (i : ℕ) → i < from → bit_at high i ≡ 0
  cleared i low = bit_is i ∙ ap (min (bit_at word i)) (bit_at_mask_below from 64 i low) ∙ min_zero (bit_at word i)

  pub none_lowest : high ≡ 0 → IsLowest word from None
  none_lowest empty i on within = sym (kept i on within) ∙ ap (λ (n : ℕ). bit_at n i) empty ∙ bit_at-zero i

  pub some_lowest : 0 < high → high < 2 ^ 64 → IsLowest word from (Some (trailing_zeros w64 high))
  some_lowest positive fits =
      let t : ℕ = trailing_zeros w64 high in
      let found : (t < 64) × (bit_at high t ≡ 1) × ((i : ℕ) → i < t → bit_at high i ≡ 0) = bit_at-trailing_zeros w64 high positive fits in
      let on : from ≤ t = elim (cases_lt t from) [
        | inl low ↦ omega (arith, cleared t low, found.1)
        | inr on ↦ on
      ] in
      (on, found.0, sym (kept t on found.0) ∙ found.1, λ i from_i low. sym (kept i from_i (omega (arith, found.0))) ∙ found.2 i low)

-- the words from a place up to another have no bit
abbrev pub AreEmpty : List ℕ → ℕ → ℕ → Type 0
AreEmpty words place next = (k : ℕ) → place ≤ k → k < next → get_or words k 0 ≡ 0

pub both_empty : (words : List ℕ) (place skipped next : ℕ) → AreEmpty words place skipped → AreEmpty words skipped next → AreEmpty words place next
both_empty words place skipped next first second k on below = elim (cases_lt k skipped) [ inl early ↦ first k on early | inr late ↦ second k late below ]

no_bit : (words : List ℕ) (n : ℕ) → get_or words (n / 64) 0 ≡ 0 → member words n ≡ false
no_bit words n empty = ap (λ (x : ℕ). bit_at x (n % 64) == 1) empty ∙ ap (λ (p : ℕ). p == 1) (bit_at-zero (n % 64))

pub none_after : (words : List ℕ) (place : ℕ) → AreEmpty words place (length words) → IsNext words (place * 64) None
none_after words place empty n on = elim (cases_lt (n / 64) (length words)) [
  | inl within ↦ no_bit words n (empty (n / 64) (omega arith) within)
  | inr past ↦ no_member words n past
]

pub found_after : (words : List ℕ) (place next : ℕ) → place ≤ next → AreEmpty words place next → 0 < get_or words next 0 → get_or words next 0 < 2 ^ 64
    → IsNext words (place * 64) (Some (next * 64 + trailing_zeros w64 (get_or words next 0)))
found_after words place next onward empty positive fits =
    let word : ℕ = get_or words next 0 in
    let t : ℕ = trailing_zeros w64 word in
    let found : (t < 64) × (bit_at word t ≡ 1) × ((i : ℕ) → i < t → bit_at word i ≡ 0) = bit_at-trailing_zeros w64 word positive fits in
    let at : (next * 64 + t) / 64 ≡ next = omega (arith, found.0) in
    let bit : (next * 64 + t) % 64 ≡ t = omega (arith, found.0) in (
      omega arith,
      ap (λ (k : ℕ). bit_at (get_or words k 0) ((next * 64 + t) % 64) == 1) at ∙ ap (λ (k : ℕ). bit_at word k == 1) bit ∙ ap (λ (p : ℕ). p == 1) found.1,
      λ n on below. elim (cases_lt (n / 64) next) [
        | inl early ↦ no_bit words n (empty (n / 64) (omega arith) early)
        | inr late ↦
            let here : n / 64 ≡ next = omega (arith, found.0) in
            ap (λ (k : ℕ). bit_at (get_or words k 0) (n % 64) == 1) here ∙ ap (λ (p : ℕ). p == 1) (found.2 (n % 64) (omega arith))
      ],
    )
