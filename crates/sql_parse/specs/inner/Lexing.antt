-- Reading a token at a place in a text, and the place after it.
use Rattle.std.specs.Prelude.{◌≡◌, ℕ, ◌+◌, List, [], ◌∷◌, length, drop, slice_index}
use Rattle.std.specs.Prelude.{Bool, ◌&&◌, nat_lt, if◌then◌else◌, Option, Result, Ok, Err}
use Rattle.ldv_value.specs.declared.value.Value.{Value}
use Rattle.ldv_value.specs.Options.{◌>>=◌}
use Rattle.ldv_value.specs.Scan.{before}
use Rattle.sql_model.specs.declared.reading.LexState.{LexState}
use Rattle.sql_model.specs.declared.reading.LexState.TheVariants.{Between}
use Rattle.sql_model.specs.declared.statement.Statement.{Statement}
use Rattle.sql_model.specs.declared.token.Token.{Token}
use Rattle.sql_model.specs.GrammarOfTokens.{is_inside, is_quote}
use Rattle.ldv_value.specs.Digits.{is_digit}
use Rattle.sql_model.specs.TextBytes.{is_blank, is_letter}
use Rattle.sql_model.specs.Texts.{with_parameters, whole_statement}
use Rattle.sql_model.specs.Tokens.{is_pair, tokens_from, tokens_of}
use Rattle.sql_parse.specs.declared.error.ParseStop.{ParseStop}
use Rattle.sql_parse.specs.inner.Gives.{Fails}

-- A byte of such a kind stands at a place.

unfoldable pub blank_at : List ℕ → ℕ → Bool
blank_at text at = nat_lt at (length text) && is_blank (slice_index text at)

unfoldable pub inside_at : List ℕ → ℕ → Bool
inside_at text at = nat_lt at (length text) && is_inside (slice_index text at)

unfoldable pub digit_at : List ℕ → ℕ → Bool
digit_at text at = nat_lt at (length text) && is_digit (slice_index text at)

unfoldable pub letter_at : List ℕ → ℕ → Bool
letter_at text at = nat_lt at (length text) && is_letter (slice_index text at)

unfoldable pub quote_at : List ℕ → ℕ → Bool
quote_at text at = nat_lt at (length text) && is_quote (slice_index text at)

-- the byte at a place and the one after it are one symbol
unfoldable pub pair_at : List ℕ → ℕ → Bool
pair_at text at = nat_lt (at + 1) (length text) && is_pair (slice_index text at) (slice_index text (at + 1))

-- a byte of a text between quotes stands at a place, a quote twice, and not the quote that ends it
unfoldable pub content_at : List ℕ → ℕ → Bool
content_at text at = if quote_at text at then quote_at text (at + 1) else nat_lt at (length text)

-- the tokens of a text from a place on, at which the scanner is in a state
unfoldable pub tokens_at : List ℕ → ℕ → LexState → Option (List Token)
tokens_at text at state = tokens_from (drop at text) state

-- a token, and then those of a text from a place on
unfoldable pub next_at : Token → List ℕ → ℕ → Option (List Token)
next_at token text at = before (token ∷ []) (tokens_at text at Between)

-- the same, where the bytes of the token may be none
abbrev pub put_at : Option Token → List ℕ → ℕ → Option (List Token)
put_at o text at = o >>= λ token. next_at token text at

-- a call that reads a token, after which the text goes on at a place
abbrev pub Lexes : Result Token ParseStop → List ℕ → ℕ → Option (List Token) → Type 0
Lexes (Ok token) text end due = due ≡ next_at token text end
Lexes (Err e) text end due = Fails e due

-- the same of a call that gives the place too
abbrev pub LexesTo : Result (Token × ℕ) ParseStop → List ℕ → Option (List Token) → Type 0
LexesTo (Ok r) text due = due ≡ next_at r.0 text r.1
LexesTo (Err e) text due = Fails e due

-- the tokens of a text, with these parameters
unfoldable pub given_of : List ℕ → List Value → Option (List Token)
given_of text params = tokens_of text >>= λ ts. with_parameters params 0 ts

-- these tokens, and then those of the rest, with the parameters from a place on
unfoldable pub given_from : List Value → List Token → ℕ → Option (List Token) → Option (List Token)
given_from params front place rest = before front (rest >>= λ ts. with_parameters params place ts)

-- the statement that tokens are
abbrev pub statement_from : Option (List Token) → Option Statement
statement_from o = o >>= λ given. whole_statement given
