-- A list has an item twice if two neighbours among its sorted items are the same.
use Rattle.std.proofs.Common.{◌≡◌, ℕ, suc, ◌+◌, ◌≤◌, ◌<◌, arith, List, [], ◌∷◌, length, refl, sym, ap, ◌∙◌, Bool, true, false, ◌||◌}
use Rattle.std.specs.Prelude.{nat_lt, slice_index_or}
use Rattle.std.specs.List.{list_any, sum_by}
use Rattle.std.specs.List.Sorted.{IsPermutation, IsSorted}
use Rattle.std.specs.Ordering.{eq_by_cmp, is_lt, is_eq, ordering_reverse}
use Rattle.std.specs.Cmp.{IsTotalOrder, eq_by_cmp_equiv}
use Rattle.std.specs.declared.cmp.Ordering.{Ordering}
use Rattle.std.specs.declared.cmp.Ordering.TheVariants.{Less, Equal, Greater}
use Rattle.std.proofs.lemmas.Bool.Decides.{nat_tests}
use Rattle.std.proofs.lemmas.List.Sorted.{sum_by-IsPermutation, length_permutation}
use Rattle.std.proofs.lemmas.List.Sums.{sum_by-cons}
use Rattle.ldv_value.proofs.Booleans.{or-from}
use Rattle.sql_model.specs.Keys.{repeats, has_same_neighbours}

abbrev one_if : Bool → ℕ
one_if true = 1
one_if false = 0

-- ---- pairs of the same items, counted, so that their order doesn't matter

module _ {X : Type 0} (same : X → X → Bool) (self : (x : X) → same x x ≡ true) (turned : (x y : X) → same x y ≡ same y x) where
  -- how many items are the same as one
  abbrev count : X → List X → ℕ
  count x xs = sum_by (λ y. one_if (same x y)) xs

  abbrev pairs : List X → ℕ
  pairs xs = sum_by (λ x. count x xs) xs

  sum_both : (f g : X → ℕ) (xs : List X) → sum_by (λ x. f x + g x) xs ≡ sum_by f xs + sum_by g xs
  sum_both f g [] = refl
  sum_both f g (x ∷ xs) =
      let more = sum_both f g xs in
      let a = sum_by-cons (λ x. f x + g x) x xs in
      let b = sum_by-cons f x xs in
      let c = sum_by-cons g x xs in
      omega arith

  pairs_more : (x : X) (xs : List X) → pairs (x ∷ xs) ≡ 1 + count x xs + count x xs + pairs xs
  pairs_more x xs =
      let first : pairs (x ∷ xs) ≡ count x (x ∷ xs) + sum_by (λ z. count z (x ∷ xs)) xs = sum_by-cons (λ z. count z (x ∷ xs)) x xs in
      let own : count x (x ∷ xs) ≡ one_if (same x x) + count x xs = sum_by-cons (λ y. one_if (same x y)) x xs in
      let one : one_if (same x x) ≡ 1 = ap one_if (self x) in
      let each : sum_by (λ z. count z (x ∷ xs)) xs ≡ sum_by (λ z. one_if (same z x) + count z xs) xs = λ j. sum_by (λ z. sum_by-cons (λ y. one_if (same z y)) x xs j) xs in
      let split : sum_by (λ z. one_if (same z x) + count z xs) xs ≡ sum_by (λ z. one_if (same z x)) xs + pairs xs = sum_both (λ z. one_if (same z x)) (λ z. count z xs) xs in
      let back : sum_by (λ z. one_if (same z x)) xs ≡ count x xs = λ j. sum_by (λ z. one_if (turned z x j)) xs in
      omega arith

  at_least : (xs : List X) → length xs ≤ pairs xs
  at_least [] = omega arith
  at_least (x ∷ xs) =
      let more = at_least xs in
      let is = pairs_more x xs in
      let long : length (x ∷ xs) ≡ suc (length xs) = refl in
      omega arith

  any_counted : (x : X) (xs : List X) → list_any (same x) xs ≡ nat_lt 0 (count x xs)
  any_counted x [] = grind (arith, nat_tests)
  any_counted x (y ∷ ys) =
      let more = any_counted x ys in
      let is : count x (y ∷ ys) ≡ one_if (same x y) + count x ys = sum_by-cons (λ z. one_if (same x z)) y ys in
      ap (λ b. same x y || b) more ∙ by (same x y) (count x ys) ∙ sym (ap (nat_lt 0) is)
    where
      by : (b : Bool) (n : ℕ) → (b || nat_lt 0 n) ≡ nat_lt 0 (one_if b + n)
      by true n = grind (arith, nat_tests)
      by false n = grind (arith, nat_tests)

  either : (len all n : ℕ) → len ≤ all → (nat_lt 0 n || nat_lt len all) ≡ nat_lt (suc len) (1 + n + n + all)
  either len all n least = grind (arith, nat_tests)

  repeats_counted : (xs : List X) → repeats same xs ≡ nat_lt (length xs) (pairs xs)
  repeats_counted [] = grind (arith, nat_tests)
  repeats_counted (x ∷ xs) =
      (λ j. any_counted x xs j || repeats_counted xs j)
      ∙ either (length xs) (pairs xs) (count x xs) (at_least xs)
      ∙ sym (ap (nat_lt (suc (length xs))) (pairs_more x xs))

  pairs_permuted : (xs ys : List X) → IsPermutation xs ys → pairs ys ≡ pairs xs
  pairs_permuted xs ys moved =
      (λ j. sum_by (λ x. sum_by-IsPermutation (λ y. one_if (same x y)) xs ys moved j) ys)
      ∙ sum_by-IsPermutation (λ x. count x xs) xs ys moved

  pub repeats-permuted : (xs ys : List X) → IsPermutation xs ys → repeats same xs ≡ repeats same ys
  repeats-permuted xs ys moved =
      repeats_counted xs
      ∙ sym (λ j. nat_lt (length_permutation xs ys moved j) (pairs_permuted xs ys moved j))
      ∙ sym (repeats_counted ys)

-- ---- sorted items

module _ {K : Type 0} (cmp : K → K → Ordering) (total : IsTotalOrder cmp) where
  abbrev same_key : K → K → Bool
  same_key = eq_by_cmp cmp

  -- no item is less than the one before it
  abbrev Falls : List K → Type 0
  Falls [] = Unit {0}
  Falls (x ∷ []) = Unit {0}
  Falls (x ∷ y ∷ ys) = (is_lt (cmp y x) ≡ false) × Falls (y ∷ ys)

  sorted_steps : (xs : List K) → IsSorted cmp xs → Falls xs
  sorted_steps [] sorted = tt
  sorted_steps (x ∷ []) sorted = tt
  sorted_steps (x ∷ y ∷ ys) sorted =
      (sorted 0 x (omega arith) (omega arith), sorted_steps (y ∷ ys) (λ k d low high. step k d high))
    where
      step : (k : ℕ) (d : K) → k + 1 < length (y ∷ ys)
          → is_lt (cmp (slice_index_or (y ∷ ys) (k + 1) d) (slice_index_or (y ∷ ys) k d)) ≡ false
      step k d high =
          let next : (k + 1) + 1 ≡ suc (k + 1) = omega arith in
          let here : k + 1 ≡ suc k = omega arith in
          let long : length (x ∷ y ∷ ys) ≡ suc (length (y ∷ ys)) = refl in
          let a : slice_index_or (x ∷ y ∷ ys) ((k + 1) + 1) d ≡ slice_index_or (y ∷ ys) (k + 1) d = ap (λ n. slice_index_or (x ∷ y ∷ ys) n d) next in
          let b : slice_index_or (x ∷ y ∷ ys) (k + 1) d ≡ slice_index_or (y ∷ ys) k d = ap (λ n. slice_index_or (x ∷ y ∷ ys) n d) here in
          sym (λ j. is_lt (cmp (a j) (b j))) ∙ sorted (k + 1) d (omega arith) (omega (arith, high, long))

  after_less : (x y z : K) → cmp x y ≡ Less → is_lt (cmp z y) ≡ false → (r : Ordering) → cmp y z ≡ r → cmp x z ≡ Less
  after_less x y z less falls Less is = total.trans x y z less is
  after_less x y z less falls Equal is =
      total.antisymm x z ∙ sym (ap ordering_reverse (total.congr y z x is)) ∙ sym (total.antisymm x y) ∙ less
  after_less x y z less falls Greater is =
      let turned : cmp z y ≡ Less = total.antisymm z y ∙ ap ordering_reverse is in
      let wrong : true ≡ false = sym (ap is_lt turned) ∙ falls in
      cc

  none_after : (x y : K) (ys : List K) → cmp x y ≡ Less → Falls (y ∷ ys) → list_any (same_key x) (y ∷ ys) ≡ false
  none_after x y [] less falls = or-from (same_key x y) false (ap is_eq less) refl
  none_after x y (z ∷ zs) less falls =
      or-from (same_key x y) (list_any (same_key x) (z ∷ zs)) (ap is_eq less)
      (none_after x z zs (after_less x y z less falls.0 (cmp y z) refl) falls.1)

  same_sorted : (xs : List K) → Falls xs → repeats same_key xs ≡ has_same_neighbours same_key xs
  same_sorted [] falls = refl
  same_sorted (x ∷ []) falls = refl
  same_sorted (x ∷ y ∷ ys) falls = by (same_sorted (y ∷ ys) falls.1) (cmp x y) refl
    where
      by : repeats same_key (y ∷ ys) ≡ has_same_neighbours same_key (y ∷ ys) → (r : Ordering) → cmp x y ≡ r
          → repeats same_key (x ∷ y ∷ ys) ≡ has_same_neighbours same_key (x ∷ y ∷ ys)
      by rest Less is =
          ap (λ b. b || repeats same_key (y ∷ ys)) (none_after x y ys is falls.1) ∙ rest
          ∙ sym (ap (λ b. b || has_same_neighbours same_key (y ∷ ys)) (ap is_eq is))
      by rest Equal is =
          ap (λ b. (b || list_any (same_key x) ys) || repeats same_key (y ∷ ys)) (ap is_eq is)
          ∙ sym (ap (λ b. b || has_same_neighbours same_key (y ∷ ys)) (ap is_eq is))
      by rest Greater is =
          let turned : cmp y x ≡ Less = total.antisymm y x ∙ ap ordering_reverse is in
          let wrong : true ≡ false = sym (ap is_lt turned) ∙ falls.0 in
          cc

  pub repeats-sorted : (xs ys : List K) → IsPermutation xs ys → IsSorted cmp ys
      → repeats same_key xs ≡ has_same_neighbours same_key ys
  repeats-sorted xs ys moved sorted =
      repeats-permuted same_key (eq_by_cmp_equiv total).refl (eq_by_cmp_equiv total).symm xs ys moved
      ∙ same_sorted ys (sorted_steps ys sorted)
