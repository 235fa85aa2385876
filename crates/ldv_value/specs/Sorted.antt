-- Lists that are strictly increasing.
use Rattle.std.specs.Prelude.{ℕ, List, [], ◌∷◌, Bool, true, ◌&&◌}
use Rattle.std.specs.Ordering.{nat_cmp, is_lt}
use Rattle.std.specs.Cmp.Lexicographic.{slice_cmp}

module _ {X : Type 0} (precedes : X → X → Bool) where
  abbrev pub precedes_first : X → List X → Bool
  precedes_first x [] = true
  precedes_first x (y ∷ ys) = precedes x y

  -- each item precedes the next
  abbrev pub is_strictly_sorted : List X → Bool
  is_strictly_sorted [] = true
  is_strictly_sorted (x ∷ xs) = precedes_first x xs && is_strictly_sorted xs

-- texts and paths, by their bytes
abbrev pub text_precedes : List ℕ → List ℕ → Bool
text_precedes a b = is_lt (slice_cmp nat_cmp a b)
