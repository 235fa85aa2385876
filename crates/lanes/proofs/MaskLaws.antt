-- Masks of a column, word by word.
use Rattle.std.proofs.Common.{◌≡◌, ◌==◌, ℕ, zero, suc, ◌+◌, ◌-◌, ◌*◌, ◌/◌, ◌%◌, ◌^◌, ◌<◌, ◌≤◌, inl, inr, Bool, true, false, cond, List, [], ◌∷◌, ◌++◌, map, length, get_or, refl, ap, sym, subst, ◌∙◌, arith, take, drop, drop-cons, add-one, length-drop, zero-add}
use Rattle.std.specs.Prelude.{ℤ, pos, slice_get, Option}
use Rattle.std.specs.Option.{option_map_or}
use Rattle.std.specs.Int.{bit_at}
use mir.Val.{bool_byte}
use lib.Lanes.{mask_l, chunk}
use Rattle.std.proofs.lemmas.Bool.{cases_lt}
use Rattle.std.proofs.lemmas.Simd.{mask_l-lt, bit_mask_l, length-chunk, chunk-drop}
use Rattle.std.proofs.lemmas.List.{length-map, map-append, get_or_past}
use Rattle.std.proofs.lemmas.Option.{slice_get_past}
use Rattle.std.proofs.Math.Pow.{pow_mono}
use Rattle.std.proofs.Math.Nat.{pow-suc}
use Rattle.ldv_value.specs.declared.value.Cmp.{Cmp}
use Rattle.lanes.specs.Selection.{passes, holds_at, IsSelection, IsSelectedTo}
use Rattle.lanes.proofs.SetLaws.{no_member}

module _ (p : ℤ → Bool) where
  -- the mask from a place on, by that from the next place on
  pub mask_more : (part : List ℤ) (place : ℕ) → place < length part → mask_l (map p (drop place part)) ≡ cond (p (get_or part place (pos 0))) 1 0 + 2 * mask_l (map p (drop (place + 1) part))
  mask_more part place within = rw (add-one, drop-cons part place (pos 0)) refl

  pub mask_bound : (part : List ℤ) (place : ℕ) → mask_l (map p (drop place part)) < 2 ^ (length part - place)
  mask_bound part place = subst (λ (n : ℕ). mask_l (map p (drop place part)) < 2 ^ n) (length-map (drop place part) p ∙ length-drop place part) (mask_l-lt (map p (drop place part)))

  pub mask_below : (part : List ℤ) (place k : ℕ) → length part ≤ place + k → mask_l (map p (drop place part)) < 2 ^ k
  mask_below part place k few =
      let less : length part - place ≤ k = omega arith in
      omega (arith, mask_bound part place, pow_mono less)

mask_append : (xs ys : List Bool) → mask_l (xs ++ ys) ≡ mask_l xs + mask_l ys * 2 ^ length xs
mask_append [] ys = omega arith
mask_append (b ∷ xs) ys =
    let twice : 2 ^ suc (length xs) ≡ 2 ^ length xs * 2 = pow-suc 2 (length xs) in
    omega (arith, mask_append xs ys, ap (λ (n : ℕ). mask_l ys * n) twice)

-- the mask from a place on, by that from eight places on
pub mask_eight : (p : ℤ → Bool) (part : List ℤ) (place next : ℕ) → next ≡ place + 8 → next ≤ length part
    → mask_l (map p (drop place part)) ≡ mask_l (map p (drop next part)) * 256 + mask_l (map p (chunk place 8 part))
mask_eight p part place next is room =
    let front : List ℤ = chunk place 8 part in
    let back : List ℤ = drop next part in
    let long : length (map p front) ≡ 8 = length-map front p ∙ length-chunk place 8 part (omega arith) in
    let all : mask_l (map p (drop place part)) ≡ mask_l (map p front) + mask_l (map p back) * 2 ^ length (map p front) =
    ap (λ (l : List ℤ). mask_l (map p l)) (chunk-drop place 8 part ∙ ap (λ (n : ℕ). front ++ drop n part) (sym is)) ∙ ap mask_l (map-append p front back) ∙ mask_append (map p front) (map p back) in
    all ∙ omega (arith, ap (λ (n : ℕ). mask_l (map p back) * 2 ^ n) long)

pub byte_of_test : (b : Bool) → bool_byte b ≤ 1
byte_of_test true = omega arith
byte_of_test false = omega arith

bit_test : (b : Bool) → (cond b 1 0 == 1) ≡ b
bit_test true = refl
bit_test false = refl

mapped_at : (t : ℤ → Bool) (xs : List ℤ) (i : ℕ) → get_or (map t xs) i false ≡ option_map_or t (slice_get xs i) false
mapped_at t [] i = get_or_past [] i false (omega arith)
mapped_at t (x ∷ xs) zero = refl
mapped_at t (x ∷ xs) (suc i) = mapped_at t xs i

taken_at : (n : ℕ) (xs : List ℤ) (i : ℕ) → i < n → slice_get (take n xs) i ≡ slice_get xs i
taken_at zero xs i within = absurd (omega arith)
taken_at (suc n) [] i within = refl
taken_at (suc n) (x ∷ xs) zero within = refl
taken_at (suc n) (x ∷ xs) (suc i) within = taken_at n xs i (omega arith)

dropped_at : (a : ℕ) (xs : List ℤ) (i : ℕ) → slice_get (drop a xs) i ≡ slice_get xs (a + i)
dropped_at zero xs i = ap (slice_get xs) (sym (zero-add i))
dropped_at (suc a) [] i = refl
dropped_at (suc a) (x ∷ xs) i = dropped_at a xs i ∙ let next : suc a + i ≡ suc (a + i) = omega arith in ap (slice_get (x ∷ xs)) (sym next)

-- a column's place in a word
word_bit : (op : Cmp) (column : List ℤ) (constant : ℤ) (k i : ℕ) → i < 64
    → (bit_at (mask_l (map (passes op constant) (chunk (k * 64) 64 column))) i == 1) ≡ holds_at op column constant (k * 64 + i)
word_bit op column constant k i within =
    let part : List ℤ = chunk (k * 64) 64 column in
    ap (λ (n : ℕ). n == 1) (bit_mask_l (map (passes op constant) part) i) ∙ bit_test (get_or (map (passes op constant) part) i false)
    ∙ mapped_at (passes op constant) part i
    ∙ ap (λ (o : Option ℤ). option_map_or (passes op constant) o false) (taken_at 64 (drop (k * 64) column) i within ∙ dropped_at (k * 64) column i)

pub selection_is : (op : Cmp) (column : List ℤ) (constant : ℤ) (mask : List ℕ) → length mask ≡ (length column + 63) / 64
    → IsSelectedTo op column constant mask (length mask) → IsSelection op column constant mask
selection_is op column constant mask long done n = elim (cases_lt (n / 64) (length mask)) [
  | inl within ↦
      let whole : n / 64 * 64 + n % 64 ≡ n = omega arith in
      ap (λ (word : ℕ). bit_at word (n % 64) == 1) (done (n / 64) within) ∙ word_bit op column constant (n / 64) (n % 64) (omega arith) ∙ ap (holds_at op column constant) whole
  | inr past ↦
      let beyond : length column ≤ n = omega arith in
      no_member mask n past ∙ sym (ap (λ (o : Option ℤ). option_map_or (passes op constant) o false) (slice_get_past column n beyond))
]
