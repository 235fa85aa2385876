-- Numbers among the words: decimal, without sign and leading zeros.
use Rattle.std.specs.Prelude.{ℕ, ◌+◌, ◌-◌, ◌*◌, List, [], ◌∷◌, codes, ◌&&◌, ◌==◌, nat_le, bytes_eq}
use Rattle.std.specs.Prelude.{if◌then◌else◌, Option, Some, None, option_and_then}
use Rattle.ldv_value.specs.Digits.{is_digit}

-- a number with one more digit, none above the limit
abbrev pub with_digit : ℕ → ℕ → ℕ → Option ℕ
with_digit limit n byte =
    if is_digit byte && nat_le (n * 10 + (byte - 48)) limit then Some (n * 10 + (byte - 48)) else None

abbrev pub with_digits : ℕ → ℕ → List ℕ → Option ℕ
with_digits limit n [] = Some n
with_digits limit n (byte ∷ bytes) =
    option_and_then (λ m. with_digits limit m bytes) (with_digit limit n byte)

-- from 1 to the limit
abbrev pub positive_within : ℕ → List ℕ → Option ℕ
positive_within limit [] = None
positive_within limit (byte ∷ bytes) = if byte == 48 then None else with_digits limit 0 (byte ∷ bytes)

-- from 0 to the limit
abbrev pub number_within : ℕ → List ℕ → Option ℕ
number_within limit bytes = if bytes_eq bytes (codes "0") then Some 0 else positive_within limit bytes
