-- The key of a name orders it as its parts do, as far as it goes.
use Rattle.std.proofs.Common.{◌≡◌, ℕ, zero, suc, ◌+◌, ◌-◌, ◌*◌, ◌<◌, ◌≤◌, ◌^◌, ◌⊎◌, List, [], ◌∷◌, refl, sym, ap, ◌∙◌, subst, inl, inr, arith}
use Rattle.std.specs.Prelude.{nat_lt}
use Rattle.std.specs.Cmp.{nat_cmp_is}
use Rattle.std.specs.Cmp.Lexicographic.{slice_cmp}
use Rattle.std.specs.Ordering.{nat_cmp, ordering_reverse, ordering_then}
use Rattle.std.specs.declared.cmp.Ordering.{Ordering}
use Rattle.std.specs.declared.cmp.Ordering.TheVariants.{Less, Equal, Greater}
use Rattle.std.proofs.lemmas.Bool.{cases_Bool, le-ltb, lt-ltb, ltb-false, ltb-true}
use Rattle.std.proofs.lemmas.Cmp.{nat_list_cmp_total}
use Rattle.run_model.specs.declared.outcome.ProcOutcome.{ProcOutcome}
use Rattle.proc_core.specs.inner.NameKey.{digit_of, rest_of, key_onto, name_key, weight}
use Rattle.proc_core.specs.inner.SlotOutcome.{name_cmp}

-- ---- digits

digit_low : (x : ℕ) (xs : List ℕ) → x < 254 → digit_of (x ∷ xs) ≡ x + 1
digit_low x xs low = rw (lt-ltb x 254 low) refl

digit_high : (x : ℕ) (xs : List ℕ) → 254 ≤ x → digit_of (x ∷ xs) ≡ 255
digit_high x xs high = rw (le-ltb x 254 high) refl

-- below 254, or not
split : (x : ℕ) → (x < 254) ⊎ (254 ≤ x)
split x = elim (cases_Bool (nat_lt x 254)) [
  | inl low ↦ inl (ltb-true x 254 low)
  | inr high ↦ inr (ltb-false x 254 high)
]

pub digit_small : (xs : List ℕ) → digit_of xs < 256
digit_small [] = omega arith
digit_small (x ∷ xs) = elim (split x) [
  | inl low ↦ omega (arith, low, digit_low x xs low)
  | inr high ↦ omega (arith, digit_high x xs high)
]

digit_more : (x : ℕ) (xs : List ℕ) → 0 < digit_of (x ∷ xs)
digit_more x xs = elim (split x) [
  | inl low ↦ omega (arith, digit_low x xs low)
  | inr high ↦ omega (arith, digit_high x xs high)
]

low_key : (n a x : ℕ) (xs : List ℕ) → x < 254 → key_onto a (suc n) (x ∷ xs) ≡ key_onto (a * 256 + (x + 1)) n xs
low_key n a x xs low = rw (lt-ltb x 254 low) refl

high_key : (n a x : ℕ) (xs : List ℕ) → 254 ≤ x → key_onto a (suc n) (x ∷ xs) ≡ key_onto (a * 256 + 255) n []
high_key n a x xs high = rw (le-ltb x 254 high) refl

-- ---- a lesser key is that of an earlier name

key_less : (n a b : ℕ) (xs ys : List ℕ) → a < b → key_onto a n xs < key_onto b n ys
key_less zero a b xs ys less = less
key_less (suc n) a b xs ys less =
    let next : a * 256 + digit_of xs < b * 256 + digit_of ys = omega (arith, less, digit_small xs) in
    key_less n (a * 256 + digit_of xs) (b * 256 + digit_of ys) (rest_of xs) (rest_of ys) next

by_digit : (n a : ℕ) (xs ys : List ℕ) → digit_of xs < digit_of ys → key_onto a (suc n) xs < key_onto a (suc n) ys
by_digit n a xs ys less =
    let next : a * 256 + digit_of xs < a * 256 + digit_of ys = omega (arith, less) in
    key_less n (a * 256 + digit_of xs) (a * 256 + digit_of ys) (rest_of xs) (rest_of ys) next

same_high : (n a x y : ℕ) (xs ys : List ℕ) → 254 ≤ x → 254 ≤ y → key_onto a (suc n) (x ∷ xs) ≡ key_onto a (suc n) (y ∷ ys)
same_high n a x y xs ys high other = high_key n a x xs high ∙ sym (high_key n a y ys other)

not_later : (n a x y : ℕ) (xs ys : List ℕ) → y < x → key_onto a (suc n) (x ∷ xs) < key_onto a (suc n) (y ∷ ys) → ⊥
not_later n a x y xs ys later less = elim (split y) [
  | inl low ↦ elim (split x) [
    | inl both ↦
        let digits : digit_of (y ∷ ys) < digit_of (x ∷ xs) = omega (arith, later, digit_low y ys low, digit_low x xs both) in
        omega (arith, less, by_digit n a (y ∷ ys) (x ∷ xs) digits)
    | inr high ↦
        let digits : digit_of (y ∷ ys) < digit_of (x ∷ xs) = omega (arith, low, digit_low y ys low, digit_high x xs high) in
        omega (arith, less, by_digit n a (y ∷ ys) (x ∷ xs) digits)
  ]
  | inr high ↦
      let above : 254 ≤ x = omega (arith, high, later) in
      omega (arith, less, same_high n a x y xs ys above high)
]

-- the first parts are the same
earlier_rest : (n a x y : ℕ) (xs ys : List ℕ) → x ≡ y → key_onto a (suc n) (x ∷ xs) < key_onto a (suc n) (y ∷ ys)
    → ((b : ℕ) → key_onto b n xs < key_onto b n ys → slice_cmp nat_cmp xs ys ≡ Less) → slice_cmp nat_cmp xs ys ≡ Less
earlier_rest n a x y xs ys same less next = elim (split x) [
  | inl low ↦
      let other : y < 254 = omega (arith, low, same) in
      let keys : key_onto a (suc n) (y ∷ ys) ≡ key_onto (a * 256 + (x + 1)) n ys =
      low_key n a y ys other ∙ ap (λ (k : ℕ). key_onto (a * 256 + (k + 1)) n ys) (sym same) in
      next (a * 256 + (x + 1)) (omega (arith, less, low_key n a x xs low, keys))
  | inr high ↦
      let other : 254 ≤ y = omega (arith, high, same) in
      absurd (omega (arith, less, same_high n a x y xs ys high other))
]

earlier : (n a : ℕ) (xs ys : List ℕ) → key_onto a n xs < key_onto a n ys → slice_cmp nat_cmp xs ys ≡ Less
earlier zero a xs ys less = absurd (omega (arith, less))
earlier (suc n) a [] [] less = absurd (omega (arith, less))
earlier (suc n) a [] (y ∷ ys) less = refl
earlier (suc n) a (x ∷ xs) [] less = absurd (omega (arith, less, by_digit n a [] (x ∷ xs) (digit_more x xs)))
earlier (suc n) a (x ∷ xs) (y ∷ ys) less = elim (cases_Bool (nat_lt x y)) [
  | inl before ↦ ap (λ (o : Ordering). ordering_then o (slice_cmp nat_cmp xs ys)) (sym (nat_cmp_is x y Less (ltb-true x y before)))
  | inr least ↦ elim (cases_Bool (nat_lt y x)) [
    | inl after ↦ absurd (not_later n a x y xs ys (ltb-true y x after) less)
    | inr most ↦
        let same : x ≡ y = omega (arith, ltb-false x y least, ltb-false y x most) in
        ap (λ (o : Ordering). ordering_then o (slice_cmp nat_cmp xs ys)) (sym (nat_cmp_is x y Equal same))
        ∙ earlier_rest n a x y xs ys same less (λ b keys. earlier n b xs ys keys)
  ]
]

module _ (a b : ProcOutcome) (k l : ℕ) (first : k ≡ name_key a.name.parts) (second : l ≡ name_key b.name.parts) where
  pub key_before : k < l → Less ≡ name_cmp a b
  key_before less = sym (earlier 16 0 a.name.parts b.name.parts (omega (arith, less, first, second)))

  pub key_after : l < k → Greater ≡ name_cmp a b
  key_after less =
      sym (nat_list_cmp_total.antisymm a.name.parts b.name.parts
      ∙ ap ordering_reverse (earlier 16 0 b.name.parts a.name.parts (omega (arith, less, first, second))))

pub ruleset key_rules = (key_before, key_after)

-- ---- sixteen digits fit

weight_more : (k i : ℕ) → weight i ≤ weight (k + i)
weight_more zero i =
    let same : zero + i ≡ i = omega arith in
    let weights : weight (zero + i) ≡ weight i = ap weight same in
    omega (arith, weights)
weight_more (suc k) i =
    let next : suc k + i ≡ suc (k + i) = omega arith in
    let weights : weight (suc k + i) ≡ weight (k + i) * 256 = ap weight next in
    omega (arith, weight_more k i, weights)

pub digits_fit : (i key d : ℕ) → i < 16 → key < weight i → d < 256 → key * 256 + d < 2 ^ 128
digits_fit i key d low small digit =
    let all : 15 - i + suc i ≡ 16 = omega (arith, low) in
    let most : weight (suc i) ≤ weight 16 = subst (λ (n : ℕ). weight (suc i) ≤ weight n) all (weight_more (15 - i) (suc i)) in
    omega (arith, small, digit, most)

pub product_fits : (i key : ℕ) → i < 16 → key < weight i → key * 256 < 2 ^ 128
product_fits i key low small = omega (arith, digits_fit i key 0 low small (omega arith))

pub digit_weighs : (i key d : ℕ) → key < weight i → d < 256 → key * 256 + d < weight (i + 1)
digit_weighs i key d small digit =
    let next : i + 1 ≡ suc i = omega arith in
    subst (λ (n : ℕ). key * 256 + d < weight n) (sym next) (omega (arith, small, digit))

pub one_digit : (i key : ℕ) (rest parts : List ℕ) → i < 16 → key_onto key (16 - i) rest ≡ name_key parts
    → key_onto (key * 256 + digit_of rest) (16 - (i + 1)) (rest_of rest) ≡ name_key parts
one_digit i key rest parts low is =
    let left : 16 - i ≡ suc (16 - (i + 1)) = omega (arith, low) in
    sym (ap (λ (n : ℕ). key_onto key n rest) left) ∙ is

pub all_digits : (i key : ℕ) (rest parts : List ℕ) → 16 ≤ i → key_onto key (16 - i) rest ≡ name_key parts → key ≡ name_key parts
all_digits i key rest parts past is =
    let none : 16 - i ≡ 0 = omega (arith, past) in
    sym (ap (λ (n : ℕ). key_onto key n rest) none) ∙ is

pub ruleset loop_rules = (digit_weighs, one_digit, all_digits)
