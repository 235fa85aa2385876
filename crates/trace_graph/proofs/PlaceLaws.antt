-- Places in a list that grows at its end.
use Rattle.std.proofs.Common.{◌≡◌, ◌∙◌, sym, ap, refl, arith, ℕ, suc, ◌+◌, ◌<◌, Bool, true, false, not, cond, ◌||◌, List, [], ◌∷◌, ◌++◌, length}
use Rattle.std.specs.Prelude.{◌==◌, if◌then◌else◌}
use Rattle.std.specs.List.{list_any, position_or_len}
use Rattle.std.specs.Cmp.{IsEquivalence}
use Rattle.std.proofs.lemmas.Bool.{ne_eqb}
use Rattle.std.proofs.Math.Dec.{eqb-suc-suc}
use Rattle.ldv_value.proofs.Booleans.{or-true, false≢true}
use Rattle.ldv_value.proofs.Lists.{list_any-append}
use Rattle.trace_graph.proofs.Distinct.{with_item}

module _ {X : Type 0} (q : X → Bool) where
  -- what is there stays where it is
  place_append : (xs ys : List X) → list_any q xs ≡ true → position_or_len q (xs ++ ys) ≡ position_or_len q xs
  place_append [] ys any = absurd (false≢true any)
  place_append (x ∷ xs) ys any = by (q x) refl (place_append xs ys)
    where
      by : (b : Bool) → q x ≡ b → (list_any q xs ≡ true → position_or_len q (xs ++ ys) ≡ position_or_len q xs)
          → cond (not b) (1 + position_or_len q (xs ++ ys)) 0 ≡ cond (not b) (1 + position_or_len q xs) 0
      by true is rest = refl
      by false is rest = ap (λ (n : ℕ). 1 + n) (rest (sym (ap (λ (b : Bool). b || list_any q xs) is) ∙ any))

  -- what comes last is where it was missing
  place_last : (xs : List X) (x : X) → q x ≡ true → position_or_len q (xs ++ x ∷ []) ≡ position_or_len q xs
  place_last [] x hit = ap (λ (b : Bool). cond (not b) (1 + 0) 0) hit
  place_last (y ∷ ys) x hit = by (q y) (place_last ys x hit)
    where
      by : (b : Bool) → position_or_len q (ys ++ x ∷ []) ≡ position_or_len q ys
          → cond (not b) (1 + position_or_len q (ys ++ x ∷ [])) 0 ≡ cond (not b) (1 + position_or_len q ys) 0
      by true rest = refl
      by false rest = ap (λ (n : ℕ). 1 + n) rest

  pub place_within : (xs : List X) → list_any q xs ≡ true → position_or_len q xs < length xs
  place_within [] any = absurd (false≢true any)
  place_within (x ∷ xs) any = by (q x) refl (place_within xs)
    where
      by : (b : Bool) → q x ≡ b → (list_any q xs ≡ true → position_or_len q xs < length xs)
          → cond (not b) (1 + position_or_len q xs) 0 < length (x ∷ xs)
      by true is rest = omega arith
      by false is rest =
          let within : position_or_len q xs < length xs = rest (sym (ap (λ (b : Bool). b || list_any q xs) is) ∙ any) in
          omega (arith, within)

  -- with one item more at the end, if none that is the same is there
  pub place_more : (same : X → X → Bool) (xs : List X) (x : X) → list_any q xs ≡ true
      → position_or_len q (with_item same xs x) ≡ position_or_len q xs
  place_more same xs x any = by (list_any (same x) xs)
    where
      by : (b : Bool) → position_or_len q (if b then xs else xs ++ x ∷ []) ≡ position_or_len q xs
      by true = refl
      by false = place_append xs (x ∷ []) any

  pub any_more : (same : X → X → Bool) (xs : List X) (x : X) → list_any q xs ≡ true → list_any q (with_item same xs x) ≡ true
  any_more same xs x any = by (list_any (same x) xs)
    where
      by : (b : Bool) → list_any q (if b then xs else xs ++ x ∷ []) ≡ true
      by true = any
      by false = list_any-append q xs (x ∷ []) ∙ ap (λ (b : Bool). b || list_any q (x ∷ [])) any

next_same : (a b : ℕ) → (1 + a == 1 + b) ≡ (a == b)
next_same a b =
    let next-a : 1 + a ≡ suc a = omega arith in
    let next-b : 1 + b ≡ suc b = omega arith in
    (λ j. next-a j == next-b j) ∙ eqb-suc-suc a b

module _ {X : Type 0} {same : X → X → Bool} (laws : IsEquivalence same) where
  pub place_own : (xs : List X) (x : X) → position_or_len (same x) (with_item same xs x) ≡ position_or_len (same x) xs
  place_own xs x = by (list_any (same x) xs)
    where
      by : (b : Bool) → position_or_len (same x) (if b then xs else xs ++ x ∷ []) ≡ position_or_len (same x) xs
      by true = refl
      by false = place_last (same x) xs x (laws.refl x)

  pub any_own : (xs : List X) (x : X) → list_any (same x) (with_item same xs x) ≡ true
  any_own xs x = by (list_any (same x) xs) refl
    where
      by : (b : Bool) → list_any (same x) xs ≡ b → list_any (same x) (if b then xs else xs ++ x ∷ []) ≡ true
      by true is = is
      by false is =
          list_any-append (same x) xs (x ∷ [])
          ∙ ap (λ (b : Bool). list_any (same x) xs || (b || false)) (laws.refl x)
          ∙ or-true (list_any (same x) xs)

  -- two items have one place exactly where they are the same, if one of them is there
  pub same_place : (xs : List X) (n m : X) → list_any (same m) xs ≡ true
      → (position_or_len (same n) xs == position_or_len (same m) xs) ≡ same n m
  same_place [] n m any = absurd (false≢true any)
  same_place (x ∷ xs) n m any = by (same m x) (same n x) refl refl (same_place xs n m)
    where
      by : (b c : Bool) → same m x ≡ b → same n x ≡ c
          → (list_any (same m) xs ≡ true → (position_or_len (same n) xs == position_or_len (same m) xs) ≡ same n m)
          → (cond (not c) (1 + position_or_len (same n) xs) 0 == cond (not b) (1 + position_or_len (same m) xs) 0) ≡ same n m
      by true true im is rest = sym (laws.symm n m ∙ laws.congr m x n im ∙ laws.symm x n ∙ is)
      by true false im is rest =
          ne_eqb (1 + position_or_len (same n) xs) 0 (λ same. omega (arith, same))
          ∙ sym (laws.symm n m ∙ laws.congr m x n im ∙ laws.symm x n ∙ is)
      by false true im is rest =
          ne_eqb 0 (1 + position_or_len (same m) xs) (λ same. omega (arith, same))
          ∙ sym (laws.congr n x m is ∙ laws.symm x m ∙ im)
      by false false im is rest =
          next_same (position_or_len (same n) xs) (position_or_len (same m) xs)
          ∙ rest (sym (ap (λ (b : Bool). b || list_any (same m) xs) im) ∙ any)
