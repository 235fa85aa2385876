-- The result of a binary search in sorted numbers.
use Rattle.std.proofs.Common.{◌≡◌, ◌↔◌, ℕ, ◌<◌, ◌≤◌, List, length, get_or, Result, Ok, Err, IsTrue, refl, ◌∙◌, arith}
use Rattle.std.specs.Prelude.{Contains, is_ok}
use Rattle.std.specs.Ordering.{nat_cmp}
use Rattle.std.specs.List.Sorted.{IsBinarySearchResult, IsNonDecreasing}
use Rattle.std.proofs.lemmas.List.Sorted.{searched}
use Rattle.std.proofs.lemmas.Grind.{get_or_default_zero}

missed : (xs : List ℕ) (x i k : ℕ) → k < length xs → get_or xs k x ≡ x → ((k : ℕ) → k < i → get_or xs k 0 < x) → ((k : ℕ) → i ≤ k → k < length xs → x < get_or xs k 0) → ⊥
missed xs x i k lt is below above = grind (arith, get_or_default_zero xs k x lt, below k, above k)

pub is_ok-iff-Contains : (xs : List ℕ) (x : ℕ) (r : Result ℕ ℕ) → IsBinarySearchResult (λ y. nat_cmp y x) xs r → IsNonDecreasing xs → IsTrue (is_ok r) ↔ Contains xs x
is_ok-iff-Contains xs x (Ok i) is up =
    let at = searched xs x (Ok i) is (λ i j le lt. up i j 0 le lt) in
    (λ _. (i, at.0, get_or_default_zero xs i x at.0 ∙ at.1), λ _. refl)
is_ok-iff-Contains xs x (Err i) is up =
    let none = searched xs x (Err i) is (λ i j le lt. up i j 0 le lt) in
    (λ h. cc, λ has. absurd (missed xs x i has.0 has.1 has.2 none.1 none.2))
