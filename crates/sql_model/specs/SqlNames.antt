-- The names of tables and columns.
use Rattle.std.specs.Prelude.{ℕ, List, [], ◌∷◌, Bool, not, ◌&&◌, codes, bytes_eq}
use Rattle.std.specs.List.{list_any}
use Rattle.ldv_value.specs.Names.{word_test}

-- the words of the language, which name no table and no column
abbrev pub reserved_words : List (List ℕ)
reserved_words =
    codes "all" ∷ codes "and" ∷ codes "as" ∷ codes "asc" ∷ codes "by" ∷ codes "count" ∷ codes "delete"
    ∷ codes "desc" ∷ codes "distinct" ∷ codes "from" ∷ codes "group" ∷ codes "having" ∷ codes "inner"
    ∷ codes "insert" ∷ codes "into" ∷ codes "is" ∷ codes "join" ∷ codes "limit" ∷ codes "max"
    ∷ codes "min" ∷ codes "not" ∷ codes "null" ∷ codes "on" ∷ codes "or" ∷ codes "order" ∷ codes "select"
    ∷ codes "set" ∷ codes "sum" ∷ codes "union" ∷ codes "update" ∷ codes "values" ∷ codes "where" ∷ []

abbrev pub is_reserved : List ℕ → Bool
is_reserved text = list_any (bytes_eq text) reserved_words

-- a lower-case word of 1 to 63 bytes that isn't reserved
abbrev pub sql_name_test : List ℕ → Bool
sql_name_test text = word_test text && not (is_reserved text)
