-- Parts of UTF-8, and the test for it.
use Rattle.std.proofs.Common.{◌≡◌, ℕ, ◌<◌, ◌≤◌, List, [], ◌∷◌, ◌++◌, length, get_or, refl, ap, ◌∙◌, cond, subst, inl, inr, false, None, Some, arith, length-append}
use Rattle.std.specs.Prelude.{IsUtf8, String, if◌then◌else◌, nat_le, string_bytes}
use Rattle.std.specs.List.{AllByRecursion}
use Rattle.std.specs.Str.{is_utf8}
use Rattle.std.proofs.lemmas.Bool.{cases_Bool, le-leb}
use Rattle.std.proofs.lemmas.Str.{IsUtf8-append, IsUtf8-take, IsUtf8-drop, IsUtf8-from_ascii, IsUtf8-from_is_utf8, is_utf8-from_IsUtf8, IsUtf8-string_bytes, IsCharBoundary-before_ascii, IsCharBoundary-after_ascii}
use Rattle.std.proofs.lemmas.Str.Ascii.{IsAscii-nil, IsAscii-cons}
use Rattle.ldv_value.specs.Options.{◌>>=◌}
use Rattle.ldv_value.specs.Texts.{text_of}
use Rattle.ldv_value.proofs.Lists.{take-front, drop-front, get_or-front}

-- ---- parts, cut beside bytes below 128

pub utf8-tail : (b : ℕ) (bs : List ℕ) → b < 128 → IsUtf8 (b ∷ bs) → IsUtf8 bs
utf8-tail b bs low u = IsUtf8-drop (b ∷ bs) 1 u (IsCharBoundary-after_ascii (b ∷ bs) 0 u (omega arith) low)

pub utf8-cons : (b : ℕ) (bs : List ℕ) → b < 128 → IsUtf8 bs → IsUtf8 (b ∷ bs)
utf8-cons b bs low u = IsUtf8-append (b ∷ []) bs (IsUtf8-from_ascii (b ∷ []) (IsAscii-cons b [] low IsAscii-nil)) u

-- before a byte below 128
pub utf8-cut : (xs : List ℕ) (b : ℕ) (ys : List ℕ) → b < 128 → IsUtf8 (xs ++ b ∷ ys) → IsUtf8 xs × IsUtf8 (b ∷ ys)
utf8-cut xs b ys low u =
    let byte : get_or (xs ++ b ∷ ys) (length xs) 0 ≡ b = get_or-front xs b ys 0 in
    let inside : length xs < length (xs ++ b ∷ ys) = omega (arith, length-append xs (b ∷ ys)) in
    let cut = IsCharBoundary-before_ascii (xs ++ b ∷ ys) (length xs) inside (omega arith) in (
      subst IsUtf8 (take-front xs (b ∷ ys)) (IsUtf8-take (xs ++ b ∷ ys) (length xs) u cut),
      subst IsUtf8 (drop-front xs (b ∷ ys)) (IsUtf8-drop (xs ++ b ∷ ys) (length xs) u cut),
    )

-- after bytes below 128
pub utf8-rest : (front rest : List ℕ) → AllByRecursion (λ b. b < 128) front → IsUtf8 (front ++ rest) → IsUtf8 rest
utf8-rest [] rest low u = u
utf8-rest (b ∷ front) rest low u = utf8-rest front rest low.1 (utf8-tail b (front ++ rest) low.0 u)

-- ---- the test

pub not-utf8 : (bs : List ℕ) → ¬ (IsUtf8 bs) → is_utf8 bs ≡ false
not-utf8 bs h = elim (cases_Bool (is_utf8 bs)) [
  | inl is ↦ absurd (h (IsUtf8-from_is_utf8 bs is))
  | inr not ↦ not
]

pub ruleset text_rules = (not-utf8, is_utf8-from_IsUtf8)

-- what a `String` holds is a text
pub text_of-string : {Y : Type 0} (t : String Y) (bytes : List ℕ) → string_bytes t ≡ bytes → text_of bytes ≡ Some (string_bytes t)
text_of-string t bytes e = subst (λ (b : List ℕ). text_of b ≡ Some (string_bytes t)) e (rw (is_utf8-from_IsUtf8 _ (IsUtf8-string_bytes t)) refl)

-- what is made of bytes that are UTF-8, of any number or of few enough
module _ {A : Type 0} (make : List ℕ → A) (t : List ℕ) (u : IsUtf8 t) where
  pub text-made : (text_of t >>= λ x. Some (make x)) ≡ Some (make t)
  text-made = ap (λ c. cond c (Some t) None >>= λ x. Some (make x)) (is_utf8-from_IsUtf8 t u)

  pub short_text-made : (most : ℕ) → length t ≤ most → (if nat_le (length t) most then (text_of t >>= λ x. Some (make x)) else None) ≡ Some (make t)
  short_text-made most short = ap (λ c. cond c (text_of t >>= λ x. Some (make x)) None) (le-leb (length t) most short) ∙ text-made
