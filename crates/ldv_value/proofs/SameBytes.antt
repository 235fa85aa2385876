-- Whether two lists of bytes are the same, by the test.
use Rattle.std.proofs.Common.{◌≡◌, ◌≢◌, refl, ℕ, List, true, false, inl, inr, sym, ◌∙◌}
use Rattle.std.specs.Prelude.{bytes_eq, ◌==◌}
use Rattle.std.proofs.lemmas.Bool.{cases_Bool}
use Rattle.std.proofs.lemmas.Bool.Decides.{Decides-eqb}
use Rattle.std.proofs.lemmas.Slice.Eq.{bytes_eq-Decides}

pub bytes_eq-true : (a b : List ℕ) → bytes_eq a b ≡ true → a ≡ b
bytes_eq-true a b same = (bytes_eq-Decides a b).0 same

pub bytes_eq-itself : (a : List ℕ) → bytes_eq a a ≡ true
bytes_eq-itself a = (bytes_eq-Decides a a).1 refl

pub bytes_eq-other : (a b : List ℕ) → a ≢ b → bytes_eq a b ≡ false
bytes_eq-other a b apart = elim (cases_Bool (bytes_eq a b)) [
  | inl same ↦ absurd (apart (bytes_eq-true a b same))
  | inr other ↦ other
]

pub nat_eq-true : (a b : ℕ) → (a == b) ≡ true → a ≡ b
nat_eq-true a b same = (Decides-eqb a b).0 same

-- in either direction
pub bytes_eq-sym : (a b : List ℕ) → bytes_eq a b ≡ bytes_eq b a
bytes_eq-sym a b = elim (cases_Bool (bytes_eq a b)) [
  | inl same ↦ let e : a ≡ b = bytes_eq-true a b same in λ j. bytes_eq (e j) (sym e j)
  | inr other ↦ elim (cases_Bool (bytes_eq b a)) [
    | inl same ↦ let e : b ≡ a = bytes_eq-true b a same in λ j. bytes_eq (sym e j) (e j)
    | inr back ↦ other ∙ sym back
  ]
]
