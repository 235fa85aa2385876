-- The members of a set whose words are merged from two sets.
use Rattle.std.proofs.Common.{◌≡◌, ◌==◌, ℕ, zero, suc, ◌-◌, ◌*◌, ◌/◌, ◌%◌, ◌^◌, ◌<◌, ◌≤◌, ◌⊎◌, inl, inr, Bool, true, false, not, ◌&&◌, ◌||◌, List, length, get_or, min, max, refl, ap, sym, ◌∙◌, arith, bit_and, bit_or, Fits, w64}
use Rattle.std.specs.Int.{bit_at, bit_not}
use Rattle.std.proofs.lemmas.Bool.{cases_lt}
use Rattle.std.proofs.lemmas.List.{get_or_past}
use Rattle.std.proofs.lemmas.Nat.Bits.{bit_at-lt, bit_at-zero, bit_at_and, bit_at_or, bit_at_not}
use Rattle.ldv_value.proofs.Booleans.{or-false, and-false, and-true, true≢false}
use Rattle.lanes.specs.Sets.{member, IsUnion, IsIntersection, IsDifference}
use Rattle.lanes.specs.inner.Merged.{IsMergedTo, without}

pub two : (p : ℕ) → p < 2 → (p ≡ 0) ⊎ (p ≡ 1)
two zero small = inl refl
two (suc zero) small = inr refl
two (suc (suc p)) small = absurd (omega arith)

either : (p q : ℕ) → p < 2 → q < 2 → (max p q == 1) ≡ ((p == 1) || (q == 1))
either p q small least = elim (two p small) [
  | inl e ↦ rw e (elim (two q least) [ inl f ↦ rw f refl | inr f ↦ rw f refl ])
  | inr e ↦ rw e (elim (two q least) [ inl f ↦ rw f refl | inr f ↦ rw f refl ])
]

both : (p q : ℕ) → p < 2 → q < 2 → (min p q == 1) ≡ ((p == 1) && (q == 1))
both p q small least = elim (two p small) [
  | inl e ↦ rw e (elim (two q least) [ inl f ↦ rw f refl | inr f ↦ rw f refl ])
  | inr e ↦ rw e (elim (two q least) [ inl f ↦ rw f refl | inr f ↦ rw f refl ])
]

other : (q : ℕ) → q < 2 → (1 - q == 1) ≡ not (q == 1)
other q least = elim (two q least) [ inl f ↦ rw f refl | inr f ↦ rw f refl ]

-- a bit of two words merged
or_bit : (x y i : ℕ) → (bit_at (bit_or x y) i == 1) ≡ ((bit_at x i == 1) || (bit_at y i == 1))
or_bit x y i = ap (λ (p : ℕ). p == 1) (bit_at_or x y i) ∙ either (bit_at x i) (bit_at y i) (bit_at-lt x i) (bit_at-lt y i)

and_bit : (x y i : ℕ) → (bit_at (bit_and x y) i == 1) ≡ ((bit_at x i == 1) && (bit_at y i == 1))
and_bit x y i = ap (λ (p : ℕ). p == 1) (bit_at_and x y i) ∙ both (bit_at x i) (bit_at y i) (bit_at-lt x i) (bit_at-lt y i)

without_bit : (x y i : ℕ) → y < 2 ^ 64 → i < 64 → (bit_at (without x y) i == 1) ≡ ((bit_at x i == 1) && not (bit_at y i == 1))
without_bit x y i fits within =
    and_bit x (bit_not w64 y) i
    ∙ ap (λ (b : Bool). (bit_at x i == 1) && b) (ap (λ (p : ℕ). p == 1) (bit_at_not w64 y i fits within) ∙ other (bit_at y i) (bit_at-lt y i))

-- past the last word there is no member
pub no_member : (words : List ℕ) (n : ℕ) → length words ≤ n / 64 → member words n ≡ false
no_member words n past = ap (λ (x : ℕ). bit_at x (n % 64) == 1) (get_or_past words (n / 64) 0 past) ∙ ap (λ (p : ℕ). p == 1) (bit_at-zero (n % 64))

pub union_is : (a b new : List ℕ) → length a ≡ length b → IsMergedTo bit_or a b new (length a) → IsUnion a b new
union_is a b new same done n = elim (cases_lt (n / 64) (length a)) [
  | inl within ↦ ap (λ (x : ℕ). bit_at x (n % 64) == 1) (done.merged (n / 64) within) ∙ or_bit (get_or a (n / 64) 0) (get_or b (n / 64) 0) (n % 64)
  | inr past ↦ ap (λ (x : ℕ). bit_at x (n % 64) == 1) (done.kept (n / 64) past) ∙ sym (ap (λ (t : Bool). member a n || t) (no_member b n (omega arith)) ∙ or-false (member a n))
]

pub intersection_is : (a b new : List ℕ) → length a ≡ length b → IsMergedTo bit_and a b new (length a) → IsIntersection a b new
intersection_is a b new same done n = elim (cases_lt (n / 64) (length a)) [
  | inl within ↦ ap (λ (x : ℕ). bit_at x (n % 64) == 1) (done.merged (n / 64) within) ∙ and_bit (get_or a (n / 64) 0) (get_or b (n / 64) 0) (n % 64)
  | inr past ↦
      ap (λ (x : ℕ). bit_at x (n % 64) == 1) (done.kept (n / 64) past) ∙ no_member a n past
      ∙ sym (ap (λ (t : Bool). member a n && t) (no_member b n (omega arith)) ∙ and-false (member a n))
]

pub difference_is : (a b new : List ℕ) → length a ≡ length b → ((k : ℕ) → Fits w64 (get_or b k 0)) → IsMergedTo without a b new (length a) → IsDifference a b new
difference_is a b new same fit done n = elim (cases_lt (n / 64) (length a)) [
  | inl within ↦
      ap (λ (x : ℕ). bit_at x (n % 64) == 1) (done.merged (n / 64) within)
      ∙ without_bit (get_or a (n / 64) 0) (get_or b (n / 64) 0) (n % 64) (fit (n / 64)).fits (omega arith)
  | inr past ↦
      ap (λ (x : ℕ). bit_at x (n % 64) == 1) (done.kept (n / 64) past)
      ∙ sym (ap (λ (t : Bool). member a n && not t) (no_member b n (omega arith)) ∙ and-true (member a n))
]

-- a slot that is set has its word
pub slot_within : (words : List ℕ) (slot : ℕ) → member words slot ≡ true → slot < 64 * length words
slot_within words slot set = elim (cases_lt (slot / 64) (length words)) [
  | inl below ↦ omega (arith, below)
  | inr over ↦ absurd (true≢false (sym set ∙ no_member words slot (omega (arith, over))))
]
