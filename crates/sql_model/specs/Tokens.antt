-- The tokens of a text.
use Rattle.std.specs.Prelude.{ℕ, ◌+◌, ◌-◌, ◌*◌, ◌^◌, min, List, [], ◌∷◌, ◌++◌, length, Bool, ◌&&◌, ◌||◌, ◌==◌}
use Rattle.std.specs.Prelude.{nat_le, nat_lt, if◌then◌else◌, Option, Some, None, option_to_list, pos}
use Rattle.ldv_value.specs.Limits.{text_limit}
use Rattle.sql_model.specs.declared.token.Token.{Token}
use Rattle.sql_model.specs.declared.token.Token.TheVariants.{Word, Number, Quoted}
use Rattle.sql_model.specs.declared.reading.LexState.{LexState}
use Rattle.sql_model.specs.declared.reading.LexState.TheVariants.{Between, InWord, InNumber, InText, AfterQuote}
use Rattle.sql_model.specs.declared.reading.LexState.TheVariants.{InSymbol, Ended}
use Rattle.ldv_value.specs.Digits.{is_digit}
use Rattle.sql_model.specs.TextBytes.{is_blank, is_letter, lower_case_of}
use Rattle.ldv_value.specs.Scan.{tokens_from as scanned}
use Rattle.ldv_value.specs.Texts.{text_of}
use Rattle.ldv_value.specs.Options.{◌>>=◌}

-- a symbol that no longer one begins with: ? * + - = ( ) , . ;
abbrev pub is_whole_symbol : ℕ → Bool
is_whole_symbol b = b == 63 || b == 42 || b == 43 || b == 45 || b == 61 || b == 40 || b == 41 || b == 44
    || b == 46 || b == 59

-- `<`, `>` and `!`, with which `<>`, `<=`, `>=` and `!=` begin
abbrev pub begins_symbol : ℕ → Bool
begins_symbol b = b == 60 || b == 62 || b == 33

-- two bytes that are one symbol: `=` after each of them, and `<>`
abbrev pub is_pair : ℕ → ℕ → Bool
is_pair a b = b == 61 || a == 60 && b == 62

-- a word has at most 63 bytes
abbrev pub word_token : List ℕ → Option Token
word_token w = if nat_le (length w) 63 then (text_of w >>= λ t. Some (Word t)) else None

-- a number is at most 2 ^ 63 - 1
abbrev pub number_token : ℕ → Option Token
number_token n = if nat_lt n (2 ^ 63) then Some (Number (pos n)) else None

-- a text has at most 65,536 bytes between its quotes
abbrev pub text_token : List ℕ → Option Token
text_token t = if nat_le (length t) text_limit then (text_of t >>= λ t. Some (Quoted t)) else None

abbrev pub symbol_token : List ℕ → Option Token
symbol_token s = text_of s >>= λ t. Some (Word t)

-- `!` by itself is no symbol
abbrev pub short_symbol : ℕ → Option Token
short_symbol b = if b == 33 then None else symbol_token (b ∷ [])

-- the number with one more digit, or 2 ^ 64 - 1 where it is more
abbrev pub with_digit : ℕ → ℕ → ℕ
with_digit n b = min (min (n * 10) (2 ^ 64 - 1) + (b - 48)) (2 ^ 64 - 1)

-- the state after a byte that starts something new
abbrev pub start : ℕ → Option LexState
start b =
    if is_blank b then Some Between
    else if is_letter b then Some (InWord (lower_case_of b ∷ []))
    else if is_digit b then Some (InNumber (b - 48))
    else if b == 39 then Some (InText [])
    else if begins_symbol b then Some (InSymbol b)
    else if is_whole_symbol b then (symbol_token (b ∷ []) >>= λ t. Some (Ended t))
    else None

-- a token ends before a byte
abbrev pub ends : Token → ℕ → Option (LexState × Option Token)
ends t b = start b >>= λ place. Some (place, Some t)

-- The state after a byte, and the token that ended before it, by the state before:
abbrev pub step_between : ℕ → Option (LexState × Option Token)
step_between b = start b >>= λ place. Some (place, None)

abbrev pub step_in_word : List ℕ → ℕ → Option (LexState × Option Token)
step_in_word w b = if is_letter b || is_digit b then Some (InWord (w ++ lower_case_of b ∷ []), None)
    else (word_token w >>= λ t. ends t b)

-- a word doesn't follow a number without a blank
abbrev pub step_in_number : ℕ → ℕ → Option (LexState × Option Token)
step_in_number n b = if is_digit b then Some (InNumber (with_digit n b), None) else if is_letter b then None
    else (number_token n >>= λ t. ends t b)

abbrev pub step_in_text : List ℕ → ℕ → Option (LexState × Option Token)
step_in_text t b = if b == 39 then Some (AfterQuote t, None) else Some (InText (t ++ b ∷ []), None)

-- two quotes in a text are one
abbrev pub step_after_quote : List ℕ → ℕ → Option (LexState × Option Token)
step_after_quote t b = if b == 39 then Some (InText (t ++ b ∷ []), None) else (text_token t >>= λ t. ends t b)

abbrev pub step_in_symbol : ℕ → ℕ → Option (LexState × Option Token)
step_in_symbol a b = if is_pair a b then (symbol_token (a ∷ b ∷ []) >>= λ t. Some (Ended t, None))
    else (short_symbol a >>= λ t. ends t b)

abbrev pub step : LexState → ℕ → Option (LexState × Option Token)
step Between b = step_between b
step (InWord w) b = step_in_word w b
step (InNumber n) b = step_in_number n b
step (InText t) b = step_in_text t b
step (AfterQuote t) b = step_after_quote t b
step (InSymbol a) b = step_in_symbol a b
step (Ended t) b = ends t b

-- the token that the end of the text ends
abbrev pub finish : LexState → Option (Option Token)
finish Between = Some None
finish (InWord w) = word_token w >>= λ t. Some (Some t)
finish (InNumber n) = number_token n >>= λ t. Some (Some t)
finish (InText t) = None
finish (AfterQuote t) = text_token t >>= λ t. Some (Some t)
finish (InSymbol a) = short_symbol a >>= λ t. Some (Some t)
finish (Ended t) = Some (Some t)

-- the tokens of bytes from a state on
abbrev pub tokens_from : List ℕ → LexState → Option (List Token)
tokens_from = scanned step finish

-- the tokens of a text
abbrev pub tokens_of : List ℕ → Option (List Token)
tokens_of text = tokens_from text Between
