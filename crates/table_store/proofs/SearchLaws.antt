-- The result of a binary search in sorted numbers.
use Rattle.std.proofs.Common.{◌≡◌, ◌==◌, ℕ, zero, suc, ◌<◌, ◌≤◌, List, [], ◌∷◌, length, get_or, Result, Ok, Err, Bool, true, sym, inl, inr, arith}
use Rattle.std.specs.Prelude.{is_ok, nat_lt}
use Rattle.std.specs.List.{list_any, list_all}
use Rattle.std.specs.Ordering.{nat_cmp}
use Rattle.std.specs.List.Sorted.{IsBinarySearchResult}
use Rattle.std.proofs.lemmas.Bool.{ltb-true}
use Rattle.std.proofs.lemmas.Bool.Decides.{Decides-eqb}
use Rattle.std.proofs.lemmas.List.Sorted.{searched}
use Rattle.ldv_value.proofs.Booleans.{not-so, or-cases, or-left, or-right}
use Rattle.ldv_value.proofs.SameBytes.{nat_eq-true}
use Rattle.sql_model.proofs.SortedLists.{sorted-all, sorted-tail}
use Rattle.table_store.specs.Stops.{are_sorted_numbers}
use Rattle.table_store.proofs.FormedLaws.{all_at}
use Rattle.ldv_value.proofs.Numbers.{less-trans}

rises : (xs : List ℕ) → are_sorted_numbers xs ≡ true → (i j d : ℕ) → i ≤ j → j < length xs → get_or xs i d ≤ get_or xs j d
rises [] sorted i j d order inside = absurd (omega (arith, inside))
rises (x ∷ xs) sorted zero zero d order inside = omega arith
rises (x ∷ xs) sorted zero (suc j) d order inside =
    let after : list_all (nat_lt x) xs ≡ true = sorted-all nat_lt less-trans x xs sorted in
    let above : x < get_or xs j d = ltb-true x (get_or xs j d) (all_at (nat_lt x) xs j d after (omega (arith, inside))) in
    omega (arith, above)
rises (x ∷ xs) sorted (suc i) zero d order inside = absurd (omega (arith, order))
rises (x ∷ xs) sorted (suc i) (suc j) d order inside =
    rises xs (sorted-tail nat_lt less-trans x xs sorted) i j d (omega (arith, order)) (omega (arith, inside))

any_at : (p : ℕ → Bool) (xs : List ℕ) (i d : ℕ) → i < length xs → p (get_or xs i d) ≡ true → list_any p xs ≡ true
any_at p [] i d inside hit = absurd (omega (arith, inside))
any_at p (x ∷ xs) zero d inside hit = or-left (p x) (list_any p xs) hit
any_at p (x ∷ xs) (suc i) d inside hit = or-right (p x) (list_any p xs) (any_at p xs i d (omega (arith, inside)) hit)

any_place : (p : ℕ → Bool) (xs : List ℕ) (d : ℕ) → list_any p xs ≡ true → (k : ℕ) × (k < length xs) × (p (get_or xs k d) ≡ true)
any_place p [] d some = cc
any_place p (x ∷ xs) d some = elim (or-cases (p x) (list_any p xs) some) [
  | inl here ↦ (0, omega arith, here)
  | inr more ↦ let later = any_place p xs d more in (suc later.0, omega (arith, later.1), later.2)
]

pub listed : (xs : List ℕ) (x : ℕ) (r : Result ℕ ℕ) → IsBinarySearchResult (λ y. nat_cmp y x) xs r → are_sorted_numbers xs ≡ true
    → is_ok r ≡ list_any (λ y. y == x) xs
listed xs x (Ok i) is sorted =
    let at = searched xs x (Ok i) is (λ i j le lt. rises xs sorted i j 0 le lt) in
    sym (any_at (λ y. y == x) xs i 0 at.0 ((Decides-eqb (get_or xs i 0) x).1 at.1))
listed xs x (Err i) is sorted =
    let none = searched xs x (Err i) is (λ i j le lt. rises xs sorted i j 0 le lt) in
    sym (not-so (list_any (λ y. y == x) xs) (λ some.
    let place = any_place (λ y. y == x) xs 0 some in
    missed x i place.0 place.1 (nat_eq-true (get_or xs place.0 0) x place.2) none.1 none.2))
  where
    missed : (x i k : ℕ) → k < length xs → get_or xs k 0 ≡ x → ((k : ℕ) → k < i → get_or xs k 0 < x)
        → ((k : ℕ) → i ≤ k → k < length xs → x < get_or xs k 0) → ⊥
    missed x i k inside is below above = grind (arith, below k, above k)
