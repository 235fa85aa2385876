-- Lists that are strictly increasing by a transitive test, and the parts of such lists.
use Rattle.std.proofs.Common.{◌≡◌, List, [], ◌∷◌, refl, Bool, true, inl, inr}
use Rattle.std.specs.Prelude.{map, filter, ◌&&◌}
use Rattle.std.specs.List.{list_all}
use Rattle.ldv_value.proofs.Booleans.{and-parts, and-from}
use Rattle.ldv_value.proofs.Cases.{cases-bool}
use Rattle.ldv_value.proofs.Lists.{list_all-weaker, list_all-filter}
use Rattle.ldv_value.specs.Sorted.{precedes_first, is_strictly_sorted}

module _ {X : Type 0} (precedes : X → X → Bool) (trans : (a b c : X) → precedes a b ≡ true → precedes b c ≡ true → precedes a c ≡ true) where
  -- each item precedes all that follow
  pub sorted-all : (x : X) (xs : List X) → is_strictly_sorted precedes (x ∷ xs) ≡ true
      → list_all (precedes x) xs ≡ true
  sorted-all x [] sorted = refl
  sorted-all x (y ∷ ys) sorted =
      let both = and-parts (precedes x y) (is_strictly_sorted precedes (y ∷ ys)) sorted in
      let more : list_all (precedes y) ys ≡ true = sorted-all y ys both.1 in
      and-from (precedes x y) (list_all (precedes x) ys) both.0
      (list_all-weaker (precedes y) (precedes x) (λ z after. trans x y z both.0 after) ys more)

  pub first-all : (x : X) (xs : List X) → list_all (precedes x) xs ≡ true → precedes_first precedes x xs ≡ true
  first-all x [] all = refl
  first-all x (y ∷ ys) all = (and-parts (precedes x y) (list_all (precedes x) ys) all).0

  pub sorted-from : (x : X) (xs : List X) → list_all (precedes x) xs ≡ true → is_strictly_sorted precedes xs ≡ true
      → is_strictly_sorted precedes (x ∷ xs) ≡ true
  sorted-from x xs all sorted = and-from (precedes_first precedes x xs) (is_strictly_sorted precedes xs) (first-all x xs all) sorted

  pub sorted-tail : (x : X) (xs : List X) → is_strictly_sorted precedes (x ∷ xs) ≡ true
      → is_strictly_sorted precedes xs ≡ true
  sorted-tail x xs sorted = (and-parts (precedes_first precedes x xs) (is_strictly_sorted precedes xs) sorted).1

  pub sorted-filter : (keep : X → Bool) (xs : List X) → is_strictly_sorted precedes xs ≡ true
      → is_strictly_sorted precedes (filter keep xs) ≡ true
  sorted-filter keep [] sorted = refl
  sorted-filter keep (x ∷ xs) sorted =
      let more : is_strictly_sorted precedes (filter keep xs) ≡ true = sorted-filter keep xs (sorted-tail x xs sorted) in
      elim (cases-bool (keep x)) [
        | inl stays ↦ rw stays (sorted-from x (filter keep xs) (list_all-filter (precedes x) keep xs (sorted-all x xs sorted)) more)
        | inr goes ↦ rw goes more
      ]
