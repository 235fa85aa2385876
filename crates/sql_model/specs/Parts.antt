-- Lists of parts, names of columns, and parts after a word.
use Rattle.std.specs.Prelude.{ℕ, List, [], ◌∷◌, ◌++◌, length, Bool, true, false, if◌then◌else◌, Option, Some}
use Rattle.std.specs.Prelude.{None, codes}
use Rattle.sql_model.specs.declared.expr.Expr.{Expr}
use Rattle.sql_model.specs.declared.token.Token.{Token}
use Rattle.sql_model.specs.Expressions.{reads_expr}
use Rattle.ldv_value.specs.Options.{◌>>=◌}
use Rattle.sql_model.specs.Reader.{starts, tail, after_word, reads_name, repeat}

-- one more part, where a comma follows
abbrev pub another : {A : Type 0} → (List Token → Option (A × List Token)) → List A → List Token
    → Option ((List A × Bool) × List Token)
another read made ts =
    if starts (codes ",") ts then (read (tail ts) >>= λ r. Some ((made ++ r.0 ∷ [], true), r.1))
    else Some ((made, false), ts)

-- one part and more of them, with commas between
abbrev pub list_of_parts : {A : Type 0} → (List Token → Option (A × List Token)) → List Token
    → Option (List A × List Token)
list_of_parts read ts = read ts >>= λ r. repeat (another read) (length ts) (r.0 ∷ []) r.1

-- a name in a list
abbrev pub reads_names : List Token → Option (List (List ℕ) × List Token)
reads_names = list_of_parts reads_name

-- the expression after a word, where the word is there
abbrev pub reads_optional : List ℕ → List Token → Option (Option Expr × List Token)
reads_optional word ts = if starts word ts then (reads_expr (tail ts) >>= λ r. Some (Some r.0, r.1))
    else Some (None, ts)

-- a tuple of VALUES
abbrev pub reads_tuple : List Token → Option (List Expr × List Token)
reads_tuple ts = after_word (codes "(") ts >>= λ inside. list_of_parts reads_expr inside
    >>= λ r. after_word (codes ")") r.1 >>= λ rest. Some (r.0, rest)
