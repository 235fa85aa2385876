-- Names of variables, labels, files, replies and children.
use Rattle.std.specs.Prelude.{ℕ, List, Bool, not, ◌&&◌, ◌||◌, codes, nat_eq}
use Rattle.std.specs.Cmp.Lexicographic.{pointwise}
use Rattle.ldv_value.specs.Names.{word_test}

-- whether two texts have the same bytes
abbrev pub is_text : List ℕ → List ℕ → Bool
is_text a b = pointwise nat_eq a b

-- the words that are no names
abbrev pub is_reserved : List ℕ → Bool
is_reserved w = is_text w (codes "null") || is_text w (codes "else") || is_text w (codes "int")

-- a lower-case word of at most 63 bytes that isn't one of them
abbrev pub name_test : List ℕ → Bool
name_test w = word_test w && not (is_reserved w)
