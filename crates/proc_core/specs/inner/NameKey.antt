-- A number of a name by which names are compared as far as it tells them apart: a byte for each of the first
-- parts.
use Rattle.std.specs.Prelude.{ℕ, zero, suc, ◌+◌, ◌*◌, List, [], ◌∷◌, nat_lt, if◌then◌else◌}

-- A part that is too large has the greatest digit, and nothing after it counts.
abbrev pub digit_of : List ℕ → ℕ
digit_of [] = 0
digit_of (x ∷ xs) = if nat_lt x 254 then x + 1 else 255

abbrev pub rest_of : List ℕ → List ℕ
rest_of [] = []
rest_of (x ∷ xs) = if nat_lt x 254 then xs else []

-- n more digits
abbrev pub key_onto : ℕ → ℕ → List ℕ → ℕ
key_onto key zero xs = key
key_onto key (suc n) xs = key_onto (key * 256 + digit_of xs) n (rest_of xs)

abbrev pub name_key : List ℕ → ℕ
name_key xs = key_onto 0 16 xs

-- the numbers of n digits are below it
abbrev pub weight : ℕ → ℕ
weight zero = 1
weight (suc n) = weight n * 256
