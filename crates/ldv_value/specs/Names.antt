-- The rules for paths and for words.
use Rattle.std.specs.Prelude.{ℕ, List, [], ◌∷◌, length, Bool, false, not, ◌&&◌, ◌||◌, ◌==◌, nat_le, nat_lt}
use Rattle.std.specs.List.{list_all}
use Rattle.ldv_value.specs.Limits.{path_limit, name_limit}

abbrev pub is_path_byte : ℕ → Bool
is_path_byte b = nat_le 32 b && not (b == 127)

-- 1 to path_limit bytes, none below 32 and none 127; that they are UTF-8 is said by their type
abbrev pub path_test : List ℕ → Bool
path_test bytes = nat_le 1 (length bytes) && nat_le (length bytes) path_limit && list_all is_path_byte bytes

-- `a` to `z`, or `_`
abbrev pub is_word_start : ℕ → Bool
is_word_start b = nat_le 97 b && nat_le b 122 || b == 95

-- the same or a digit
abbrev pub is_word_byte : ℕ → Bool
is_word_byte b = is_word_start b || nat_le 48 b && nat_le b 57

-- a lower-case word of at most name_limit bytes
abbrev pub word_test : List ℕ → Bool
word_test [] = false
word_test (b ∷ bytes) = is_word_start b && nat_lt (length bytes) name_limit && list_all is_word_byte bytes
