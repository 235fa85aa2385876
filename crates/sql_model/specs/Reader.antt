-- Reading from the front of tokens.
use Rattle.std.specs.Prelude.{ℕ, zero, suc, List, [], ◌∷◌, Bool, false, if◌then◌else◌, Option, Some, None}
use Rattle.std.specs.Prelude.{nat_eq}
use Rattle.std.specs.Cmp.Lexicographic.{pointwise}
use Rattle.sql_model.specs.SqlNames.{sql_name_test}
use Rattle.sql_model.specs.declared.token.Token.{Token}
use Rattle.sql_model.specs.declared.token.Token.TheVariants.{Word, Number, Quoted, Given}
use Rattle.ldv_value.specs.Options.{◌>>=◌, only_if}

-- the token is this word or symbol
abbrev pub is_word : List ℕ → Token → Bool
is_word text (Word w) = pointwise nat_eq w text
is_word text (Number z) = false
is_word text (Quoted t) = false
is_word text (Given v) = false

abbrev pub starts : List ℕ → List Token → Bool
starts text [] = false
starts text (t ∷ ts) = is_word text t

-- all but the first token
abbrev pub tail : List Token → List Token
tail [] = []
tail (t ∷ ts) = ts

-- the tokens without this first one, where they start with it
abbrev pub tokens_past : List ℕ → List Token → List Token
tokens_past text ts = if starts text ts then tail ts else ts

-- what follows this first one
abbrev pub after_word : List ℕ → List Token → Option (List Token)
after_word text ts = only_if (starts text ts) (Some (tail ts))

abbrev pub reads_token : List Token → Option (Token × List Token)
reads_token [] = None
reads_token (t ∷ ts) = Some (t, ts)

abbrev pub name_in : List ℕ → Option (List ℕ)
name_in w = only_if (sql_name_test w) (Some w)

-- the name that a token is
abbrev pub name_of : Token → Option (List ℕ)
name_of (Word w) = name_in w
name_of (Number z) = None
name_of (Quoted t) = None
name_of (Given v) = None

abbrev pub reads_name : List Token → Option (List ℕ × List Token)
reads_name ts = reads_token ts >>= λ t. name_of t.0 >>= λ n. Some (n, t.1)

-- Step by step, at most a number of times: each step says whether another one follows it.
unfoldable pub repeat : {A : Type 0} → (A → List Token → Option ((A × Bool) × List Token)) → ℕ → A
    → List Token → Option (A × List Token)
repeat step zero made ts = None
repeat step (suc k) made ts = step made ts >>= λ r. if r.0.1 then repeat step k r.0.0 r.1
    else Some (r.0.0, r.1)
