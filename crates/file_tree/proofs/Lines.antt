-- Where a line ends, and whether it is text.
use Rattle.std.proofs.Common.{◌≡◌, ap, refl, ℕ, zero, suc, ◌+◌, ◌≤◌, min, Bool, true, false, cond, not, List, [], ◌∷◌, length, take, Some, None, arith, inl, inr}
use Rattle.std.proofs.lemmas.Bool.{cases_Bool}
use Rattle.std.specs.Prelude.{position, nat_lt}
use Rattle.std.specs.List.{position_or_len}
use borrow.Author.Tests.{ltb-false}
use Rattle.std.specs.Str.{IsUtf8, is_utf8}
use Rattle.std.proofs.lemmas.Str.{IsUtf8-from_is_utf8, is_utf8-from_IsUtf8}
use Rattle.ldv_value.specs.declared.line.LineRead.TheVariants.{Line, NotText}
use Rattle.ldv_value.specs.FileState.{is_line_feed, line_length, text_read}

module _ {X : Type 0} (p : X → Bool) where
  first_within : (xs : List X) → position_or_len p xs ≤ length xs
  first_within [] = omega arith
  first_within (x ∷ xs) = elim (p x) as (λ b. cond (not b) (1 + position_or_len p xs) 0 ≤ suc (length xs)) [ true ↦ omega arith | false ↦ omega (arith, first_within xs) ]

  first_taken : (n : ℕ) (xs : List X) → position_or_len p (take n xs) ≡ min n (position_or_len p xs)
  first_taken zero [] = omega arith
  first_taken zero (x ∷ xs) = omega arith
  first_taken (suc n) [] = omega arith
  first_taken (suc n) (x ∷ xs) = elim (p x) as (λ b. cond (not b) (1 + position_or_len p (take n xs)) 0 ≡ min (suc n) (cond (not b) (1 + position_or_len p xs) 0)) [ true ↦ omega arith | false ↦ omega (arith, first_taken n xs) ]

-- the place of the first LF, if there is one
pub place_some : (xs : List ℕ) (i : ℕ) → position is_line_feed xs ≡ Some i → i ≡ line_length xs
place_some xs i is = elim (cases_Bool (nat_lt (line_length xs) (length xs))) [
  | inl below ↦ let e : Some (line_length xs) ≡ Some i = rw below at is in cc
  | inr above ↦ let e : None ≡ Some i = rw above at is in cc
]

pub place_none : (xs : List ℕ) → position is_line_feed xs ≡ None → length xs ≡ line_length xs
place_none xs is = elim (cases_Bool (nat_lt (line_length xs) (length xs))) [
  | inl below ↦ let e : Some (line_length xs) ≡ None = rw below at is in cc
  | inr above ↦ let le : length xs ≤ line_length xs = ltb-false _ _ above in omega (arith, first_within is_line_feed xs)
]

pub length_within : (xs : List ℕ) → line_length xs ≤ length xs
length_within xs = first_within is_line_feed xs

pub length_taken : (n : ℕ) (xs : List ℕ) → line_length (take n xs) ≡ min n (line_length xs)
length_taken n xs = first_taken is_line_feed n xs

pub text_made : (line : List ℕ) (next : ℕ) → IsUtf8 line → text_read line next ≡ Line line next
text_made line next text = ap (λ b. cond b (Line line next) NotText) (is_utf8-from_IsUtf8 line text)

refused : (b : Bool) (line : List ℕ) (next : ℕ) → (b ≡ true → ⊥) → cond b (Line line next) NotText ≡ NotText
refused true line next not_text = absurd (not_text refl)
refused false line next not_text = refl

pub text_refused : (line : List ℕ) (next : ℕ) → ¬ (IsUtf8 line) → text_read line next ≡ NotText
text_refused line next not_text = refused (is_utf8 line) line next (λ is. not_text (IsUtf8-from_is_utf8 line is))
