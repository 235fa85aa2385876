-- Options one after another, and under a condition.
use Rattle.std.specs.Prelude.{Bool, if◌then◌else◌, Option, None, option_and_then, List, [], ◌∷◌}
use Rattle.std.specs.Option.{option_or}

infixl 10 ◌>>=◌
-- the second goes on with what the first gives
abbrev pub ◌>>=◌ : {A B : Type 0} → Option A → (A → Option B) → Option B
o >>= f = option_and_then f o

abbrev pub only_if : {A : Type 0} → Bool → Option A → Option A
only_if b o = if b then o else None

-- the first that an item of a list gives
abbrev pub first_some : {X Y : Type 0} → (X → Option Y) → List X → Option Y
first_some f [] = None
first_some f (x ∷ xs) = option_or (f x) (first_some f xs)
