-- The tokens of a line.
use Rattle.std.specs.Prelude.{ℕ, ◌++◌, List, [], ◌∷◌, length, Bool, ◌||◌, ◌==◌, nat_le, if◌then◌else◌, Option}
use Rattle.std.specs.Prelude.{Some, None, option_to_list, ℤ}
use Rattle.script_parse.specs.declared.token.Token.{Token}
use Rattle.script_parse.specs.declared.token.Token.TheVariants.{Word, Number, Quoted}
use Rattle.script_parse.specs.declared.scan.LexState.{LexState}
use Rattle.script_parse.specs.declared.scan.LexState.TheVariants.{Between, InWord, InText, Escaped, Closed}
use Rattle.ldv_value.specs.Limits.{text_limit}
use Rattle.ldv_value.specs.Scan.{tokens_from as scanned}
use Rattle.ldv_value.specs.Texts.{text_of}
use Rattle.ldv_value.specs.Options.{◌>>=◌}
use Rattle.script_parse.specs.Number.{number_of}

abbrev pub is_blank : ℕ → Bool
is_blank b = b == 32 || b == 9

-- the byte that a letter after a backslash means
abbrev pub escape_of : ℕ → Option ℕ
escape_of b =
    if b == 110 then Some 10
    else if b == 116 then Some 9
    else if b == 34 then Some 34
    else if b == 92 then Some 92
    else None

abbrev pub word_or_number : List ℕ → Option ℤ → Option Token
word_or_number w (Some z) = Some (Number z)
word_or_number w None = text_of w >>= λ t. Some (Word t)

-- a token without quotes: a number where it has the form of one
abbrev pub word_token : List ℕ → Option Token
word_token w = word_or_number w (number_of w)

-- a token in quotes, from its bytes with the escapes read
abbrev pub text_token : List ℕ → Option Token
text_token t = if nat_le (length t) text_limit then (text_of t >>= λ t. Some (Quoted t)) else None

-- The state after a byte, and the token that ended before it, by the state before:
abbrev pub step_between : ℕ → Option (LexState × Option Token)
step_between b =
    if is_blank b then Some (Between, None)
    else if b == 34 then Some (InText [], None)
    else Some (InWord (b ∷ []), None)

abbrev pub step_in_word : List ℕ → ℕ → Option (LexState × Option Token)
step_in_word w b =
    if is_blank b then (word_token w >>= λ t. Some (Between, Some t))
    else Some (InWord (w ++ b ∷ []), None)

abbrev pub step_in_text : List ℕ → ℕ → Option (LexState × Option Token)
step_in_text t b =
    if b == 34 then (text_token t >>= λ k. Some (Closed k, None))
    else if b == 92 then Some (Escaped t, None)
    else Some (InText (t ++ b ∷ []), None)

abbrev pub step_escaped : List ℕ → ℕ → Option (LexState × Option Token)
step_escaped t b = escape_of b >>= λ c. Some (InText (t ++ c ∷ []), None)

abbrev pub step_closed : Token → ℕ → Option (LexState × Option Token)
step_closed k b = if is_blank b then Some (Between, Some k) else None

abbrev pub step : LexState → ℕ → Option (LexState × Option Token)
step Between b = step_between b
step (InWord w) b = step_in_word w b
step (InText t) b = step_in_text t b
step (Escaped t) b = step_escaped t b
step (Closed k) b = step_closed k b

-- the token that the end of the line ends
abbrev pub finish : LexState → Option (Option Token)
finish Between = Some None
finish (InWord w) = word_token w >>= λ t. Some (Some t)
finish (InText t) = None
finish (Escaped t) = None
finish (Closed k) = Some (Some k)

-- the tokens of bytes from a state on
abbrev pub tokens_from : List ℕ → LexState → Option (List Token)
tokens_from = scanned step finish

-- the tokens of a line
abbrev pub tokens_of : List ℕ → Option (List Token)
tokens_of line = tokens_from line Between
