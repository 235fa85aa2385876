-- Decimal digits.
use Rattle.std.specs.Prelude.{◌≢◌, ℕ, Bool, ◌&&◌, nat_le, List, [], IsTrue}
use Rattle.std.specs.List.{AllByRecursion}

abbrev pub is_digit : ℕ → Bool
is_digit b = nat_le 48 b && nat_le b 57

-- one digit or more
abbrev pub AreDigits : List ℕ → Type 0
AreDigits ds = (ds ≢ []) × AllByRecursion (λ d. IsTrue (is_digit d)) ds
