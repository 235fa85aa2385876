-- The bytes of SQL's texts: blanks, digits, letters.
use Rattle.std.specs.Prelude.{ℕ, ◌+◌, Bool, ◌&&◌, ◌||◌, ◌==◌, nat_le, if◌then◌else◌}
pub use Rattle.ldv_value.specs.Digits.{is_digit}

-- space, tab, LF and CR
abbrev pub is_blank : ℕ → Bool
is_blank b = b == 32 || b == 9 || b == 10 || b == 13

abbrev pub is_upper : ℕ → Bool
is_upper b = nat_le 65 b && nat_le b 90

-- a letter or `_`
abbrev pub is_letter : ℕ → Bool
is_letter b = is_upper b || nat_le 97 b && nat_le b 122 || b == 95

-- a letter in its lower case, and any other byte as it is
abbrev pub lower_case_of : ℕ → ℕ
lower_case_of b = if is_upper b then b + 32 else b
