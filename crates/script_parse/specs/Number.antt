-- Numbers as scripts write them: an optional `-` and digits, within i64.
use Rattle.std.specs.Prelude.{ℕ, ◌+◌, ◌-◌, ◌*◌, ◌^◌, List, [], ◌∷◌, ◌&&◌, ◌==◌, nat_le, nat_lt}
use Rattle.std.specs.Prelude.{if◌then◌else◌, Option, Some, None, ℤ, pos, neg_ℤ}
use Rattle.std.specs.List.{list_all}
use Rattle.ldv_value.specs.Digits.{is_digit}
use Rattle.ldv_value.specs.Options.{◌>>=◌}

-- the number of which n is the front and these are the last digits
abbrev pub digits_from : ℕ → List ℕ → ℕ
digits_from n [] = n
digits_from n (b ∷ bs) = digits_from (10 * n + (b - 48)) bs

-- the number of which n is the front and these are the last digits, where it is at most 2 ^ 63
abbrev pub magnitude_from : ℕ → List ℕ → Option ℕ
magnitude_from n bs =
    if list_all is_digit bs && nat_le (digits_from n bs) (2 ^ 63) then Some (digits_from n bs)
    else None

-- the number of one digit and more, where it is at most 2 ^ 63
abbrev pub magnitude_of : List ℕ → Option ℕ
magnitude_of [] = None
magnitude_of (b ∷ bs) = magnitude_from 0 (b ∷ bs)

abbrev pub natural_of : List ℕ → Option ℤ
natural_of ds = magnitude_of ds >>= λ n. (if nat_lt n (2 ^ 63) then Some (pos n) else None)

abbrev pub negative_of : List ℕ → Option ℤ
negative_of ds = magnitude_of ds >>= λ n. Some (neg_ℤ (pos n))

-- the number, where the bytes have the form and it is within i64
abbrev pub number_of : List ℕ → Option ℤ
number_of [] = None
number_of (b ∷ bs) = if b == 45 then negative_of bs else natural_of (b ∷ bs)
