-- The items of a list from an index on, and the index of the first item that passes a test.
use Rattle.std.proofs.Common.{◌≡◌, ◌∙◌, sym, ap, ℕ, zero, suc, ◌+◌, ◌<◌, ◌≤◌, List, [], ◌∷◌, refl, add-one, get_or, arith, cond, ltb}
use Rattle.std.specs.Prelude.{Bool, drop, slice_get, Some, None, not, length, position, unwrap_or}
use Rattle.std.specs.List.{position_or_len}
use Rattle.std.proofs.Math.Seq.{drop-cons}
use Rattle.std.proofs.lemmas.Bool.Decides.{nat_tests}
use Rattle.std.proofs.lemmas.List.Sums.{prefix_len-le-length}

drop_suc : {X : Type 0} (xs : List X) (i : ℕ) (x : X) → slice_get xs i ≡ Some x → drop i xs ≡ x ∷ drop (suc i) xs
drop_suc [] i x is = cc
drop_suc (y ∷ xs) zero x is = cc
drop_suc (y ∷ xs) (suc i) x is = drop_suc xs i x is

none_suc : {X : Type 0} (xs : List X) (i : ℕ) → slice_get xs i ≡ None → drop i xs ≡ []
none_suc [] zero is = refl
none_suc [] (suc i) is = refl
none_suc (y ∷ xs) zero is = cc
none_suc (y ∷ xs) (suc i) is = none_suc xs i is

pub drop_some : {X : Type 0} (xs : List X) (i : ℕ) (x : X) → slice_get xs i ≡ Some x → drop i xs ≡ x ∷ drop (i + 1) xs
drop_some xs i x is = rw add-one (drop_suc xs i x is)

pub drop_none : {X : Type 0} (xs : List X) (i : ℕ) → slice_get xs i ≡ None → drop i xs ≡ []
drop_none xs i is = none_suc xs i is

pub drop_item : {X : Type 0} (xs : List X) (i : ℕ) (x : X) → i < length xs → x ≡ get_or xs i x → drop i xs ≡ x ∷ drop (i + 1) xs
drop_item xs i x h e = rw add-one (drop-cons xs i x h ∙ ap (λ y. y ∷ drop (suc i) xs) (sym e))

-- ---- the first that passes

below_or : (n m : ℕ) → n ≤ m → unwrap_or (cond (ltb n m) (Some n) None) m ≡ n
below_or n m h = grind (arith, nat_tests)

pub place_or_len : {X : Type 0} (p : X → Bool) (xs : List X) → unwrap_or (position p xs) (length xs) ≡ position_or_len p xs
place_or_len p xs = below_or (position_or_len p xs) (length xs) (prefix_len-le-length (λ x. not (p x)) xs)
