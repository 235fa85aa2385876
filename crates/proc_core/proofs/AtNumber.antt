-- The item at a number, as code borrows it.
use Rattle.std.proofs.Common.{◌≡◌, ℕ, ◌<◌, List, length, get_or, refl}
use Rattle.std.specs.Prelude.{Some, slice_get}
use Rattle.std.proofs.lemmas.Option.{slice_get_read}

module _ {X : Type 0} (xs : List X) (n : ℕ) (x : X) (within : n < length xs) (is : x ≡ get_or xs n x) where
  pub item_same : (r : X) → slice_get xs n ≡ Some r → x ≡ r
  item_same r at = let there : slice_get xs n ≡ Some x = slice_get_read xs (length xs) n x refl within is in cc
