-- The tokens of a text with its parameters, one after another.
use Rattle.std.proofs.Common.{◌≡◌, ℕ, ◌≤◌, List, [], ◌∷◌, ◌++◌, refl, length, ap, Some, None, Bool, true, false, append-nil}
use Rattle.std.specs.Prelude.{Option, ◌==◌}
use Rattle.std.proofs.lemmas.List.{drop_all}
use Rattle.ldv_value.specs.declared.value.Value.{Value}
use Rattle.ldv_value.specs.Options.{◌>>=◌, only_if}
use Rattle.ldv_value.specs.Scan.{before}
use Rattle.ldv_value.proofs.Scanning.{before-none}
use Rattle.sql_model.specs.declared.reading.LexState.TheVariants.{Between}
use Rattle.sql_model.specs.declared.token.Token.{Token}
use Rattle.sql_model.specs.Texts.{placed_token, with_parameters, statement_of, whole_statement}
use Rattle.sql_model.specs.Tokens.{tokens_from}
use Rattle.sql_parse.specs.inner.Lexing.{given_from, given_of, next_at, statement_from, tokens_at}
use Rattle.sql_parse.proofs.Placed.{placed_first}

pub given_begins : (text : List ℕ) (params : List Value) → given_from params [] 0 (tokens_at text 0 Between) ≡ given_of text params
unfolding given_from given_of tokens_at
given_begins text params = before-none (tokens_from text Between >>= λ ts. with_parameters params 0 ts)

pub given_none : (params : List Value) (front : List Token) (place : ℕ) → given_from params front place None ≡ None
unfolding given_from
given_none params front place = refl

-- the first token of the rest has the value of its parameter
pub given_goes : (text : List ℕ) (params : List Value) (front : List Token) (place : ℕ) (t : Token) (end : ℕ)
    → given_from params front place (next_at t text end) ≡ (placed_token params place t >>= λ r. given_from params (front ++ r.0 ∷ []) r.1 (tokens_at text end Between))
unfolding given_from next_at
given_goes text params front place t end = placed_first params place front t (tokens_at text end Between)

all_of : (b : Bool) (front : List Token) → before front (only_if b (Some [])) ≡ only_if b (Some front)
all_of true front = ap Some (append-nil front)
all_of false front = refl

pub given_ends : (params : List Value) (front : List Token) (place : ℕ) → given_from params front place (Some []) ≡ only_if (place == length params) (Some front)
unfolding given_from
given_ends params front place = all_of (place == length params) front

-- the text ends
pub no_more : (text : List ℕ) (at : ℕ) → length text ≤ at → tokens_at text at Between ≡ Some []
unfolding tokens_at
no_more text at past = ap (λ (l : List ℕ). tokens_from l Between) (drop_all at text past)

pub ruleset given_rules = (given_begins, given_none, given_goes, given_ends, no_more)

-- ---- the statement of the tokens

in_turn : (o : Option (List Token)) (params : List Value)
    → ((o >>= λ ts. with_parameters params 0 ts) >>= λ given. whole_statement given) ≡ (o >>= λ ts. with_parameters params 0 ts >>= λ given. whole_statement given)
in_turn None params = refl
in_turn (Some ts) params = refl

pub statement_is : (text : List ℕ) (params : List Value) → statement_from (given_of text params) ≡ statement_of text params
unfolding given_of
statement_is text params = in_turn (tokens_from text Between) params
