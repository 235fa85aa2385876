-- A text is UTF-8 if its spelling is.
use Rattle.std.proofs.Common.{◌≡◌, ℕ, zero, suc, ◌<◌, ◌≤◌, List, [], ◌∷◌, ◌++◌, length, take, drop, get_or, refl, sym, ap, ◌∙◌, subst, Bool, true, false, inl, inr, ◌&&◌, arith, length-append}
use Rattle.std.specs.Prelude.{IsUtf8}
use Rattle.std.specs.List.{AllByRecursion}
use lib.Utf8.{scalar, scalars, encodes, encode}
use Rattle.std.proofs.lemmas.Bool.{cases_lt, false≢true}
use Rattle.std.proofs.lemmas.Str.{IsUtf8-nil, IsUtf8-append, IsUtf8-take, IsUtf8-drop, IsUtf8-encode, IsUtf8-from_ascii, IsCharBoundary-before_ascii, IsCharBoundary-after_ascii, encode_ascii, inside_one, length-encode, len_utf8_bounds}
use Rattle.std.proofs.lemmas.Str.Ascii.{IsAscii-nil, IsAscii-cons}
use Rattle.ldv_value.proofs.Booleans.{and-parts}
use Rattle.ldv_value.proofs.Lists.{append-nil}
use Rattle.ldv_value.proofs.Utf8Parts.{utf8-tail, utf8-cons, utf8-cut}
use Rattle.script_parse.specs.Grammar.{Escapes, Spells}

abbrev pub AreHigh : List ℕ → Type 0
AreHigh = AllByRecursion (λ b. 128 ≤ b)

all_high : (p : List ℕ) → ((k : ℕ) → k < length p → 128 ≤ get_or p k 0) → AreHigh p
all_high [] h = tt
all_high (x ∷ xs) h = (h 0 (omega arith), all_high xs (λ k l. h (suc k) (omega arith)))

high_byte : (c k : ℕ) → 128 ≤ c → k < length (encode c) → 128 ≤ get_or (encode c) k 0
high_byte c k high l = elim (cases_lt (get_or (encode c) k 0) 128) [
  | inl low ↦ absurd (omega (arith, inside_one c [] (encode c) k (sym (append-nil (encode c))) l low))
  | inr above ↦ above
]

encode_high : (c : ℕ) → 128 ≤ c → AreHigh (encode c)
encode_high c high = all_high (encode c) (λ k l. high_byte c k high l)

-- bytes from 128 on stand for themselves
high_run : (p body text : List ℕ) → AreHigh p → Spells (p ++ body) text → (more : List ℕ) × (text ≡ p ++ more) × Spells body more
high_run [] body text high spells = (text, refl, spells)
high_run (x ∷ xs) body [] high spells = absurd cc
high_run (x ∷ xs) body (b ∷ text) high (rest, spells, inl (e, quote, slash)) =
    let same : xs ++ body ≡ rest = cc in
    let byte : x ≡ b = cc in
    let r = high_run xs body text high.1 (subst (λ (l : List ℕ). Spells l text) (sym same) spells) in
    (r.0, ap (λ (y : ℕ). y ∷ text) (sym byte) ∙ ap (λ (l : List ℕ). x ∷ l) r.1, r.2)
high_run (x ∷ xs) body (b ∷ text) high (rest, spells, inr (letter, e, escape)) =
    let byte : x ≡ 92 = cc in
    let above : 128 ≤ x = high.0 in
    absurd (omega arith)

escaped_low : (letter b : ℕ) → Escapes letter b → (letter < 128) × (b < 128)
escaped_low letter b (inl (e, is)) = (omega arith, omega arith)
escaped_low letter b (inr (inl (e, is))) = (omega arith, omega arith)
escaped_low letter b (inr (inr (inl (e, is)))) = (omega arith, omega arith)
escaped_low letter b (inr (inr (inr (e, is)))) = (omega arith, omega arith)

-- the first character of UTF-8 that begins with a byte from 128 on
abbrev pub HasHighFront : List ℕ → Type 0
HasHighFront body = (p : List ℕ) × (rest : List ℕ) × AreHigh p × (0 < length p) × IsUtf8 p × (body ≡ p ++ rest) × IsUtf8 rest

high_front : (b : ℕ) (after body cs : List ℕ) → 128 ≤ b → body ≡ b ∷ after → scalars cs ≡ true → encodes cs ≡ body → HasHighFront body
high_front b after body [] high e are is = let no : [] ≡ b ∷ after = is ∙ e in absurd cc
high_front b after body (c ∷ cs) high e are is =
    let p = and-parts (scalar c) (scalars cs) are in
    elim (cases_lt c 128) [
      | inl low ↦
          let same : c ∷ encodes cs ≡ b ∷ after = sym (ap (λ (l : List ℕ). l ++ encodes cs) (encode_ascii c low)) ∙ is ∙ e in
          let byte : c ≡ b = cc in
          absurd (omega arith)
      | inr above ↦ (encode c, encodes cs, encode_high c above, omega (arith, length-encode c, len_utf8_bounds c), IsUtf8-encode c p.0, sym is, (cs, (p.1, refl)))
    ]

-- A text is UTF-8 if its spelling is.
pub spells_utf8 : (n : ℕ) (body text : List ℕ) → length text ≤ n → Spells body text → IsUtf8 body → IsUtf8 text
spells_utf8 n body [] within spells u = IsUtf8-nil
spells_utf8 zero body (b ∷ text) within spells u = absurd (omega arith)
spells_utf8 (suc n) body (b ∷ text) within (rest, spells, inr (letter, e, escape)) u =
    let low = escaped_low letter b escape in
    let u2 : IsUtf8 (92 ∷ letter ∷ rest) = subst IsUtf8 e u in
    let u3 : IsUtf8 rest = utf8-tail letter rest low.0 (utf8-tail 92 (letter ∷ rest) (omega arith) u2) in
    utf8-cons b text low.1 (spells_utf8 n rest text (omega arith) spells u3)
spells_utf8 (suc n) body (b ∷ text) within (rest, spells, inl (e, quote, slash)) u = elim (cases_lt b 128) [
  | inl low ↦ utf8-cons b text low (spells_utf8 n rest text (omega arith) spells (utf8-tail b rest low (subst IsUtf8 e u)))
  | inr high ↦
      let f = high_front b rest body u.0 high e u.1.0 u.1.1 in
      let whole : Spells body (b ∷ text) = (rest, spells, inl (e, quote, slash)) in
      let r = high_run f.0 f.1 (b ∷ text) f.2 (subst (λ (l : List ℕ). Spells l (b ∷ text)) f.5 whole) in
      let shorter : length r.0 ≤ n = omega (arith, ap length r.1, length-append f.0 r.0, f.3) in
      subst IsUtf8 (sym r.1) (IsUtf8-append f.0 r.0 f.4 (spells_utf8 n f.1 r.0 shorter r.2 f.6))
]
