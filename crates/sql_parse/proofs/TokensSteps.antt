-- One step of reading a text: the state after a byte, and whether a token ends before it.
use Rattle.std.proofs.Common.{◌≡◌, ℕ, List, [], ◌∷◌, ◌++◌, refl, sym, ap, ◌∙◌, cond, true, false, Some, None}
use Rattle.std.specs.Prelude.{Option, option_to_list}
use Rattle.sql_model.specs.declared.token.Token.{Token}
use Rattle.sql_model.specs.declared.reading.LexState.{LexState}
use Rattle.sql_model.specs.declared.reading.LexState.TheVariants.{Between, InWord, InNumber, InText, AfterQuote, InSymbol, Ended}
use Rattle.ldv_value.specs.Options.{◌>>=◌}
use Rattle.sql_model.specs.GrammarOfTokens.{BeginsNot, is_inside, is_quote}
use Rattle.ldv_value.specs.Digits.{is_digit}
use Rattle.sql_model.specs.TextBytes.{is_letter, lower_case_of}
use Rattle.ldv_value.specs.Scan.{before}
use Rattle.sql_model.specs.Tokens.{is_pair, with_digit, word_token, number_token, text_token, symbol_token, short_symbol, start, ends, tokens_from}
use Rattle.ldv_value.proofs.Options.{bind-some, same-some}
use Rattle.ldv_value.proofs.Booleans.{not-so, or-parts}
use Rattle.ldv_value.proofs.Scanning.{before-none}

-- what follows a step
abbrev pub on : List ℕ → Option (LexState × Option Token) → Option (List Token)
on rest o = o >>= λ s. before (option_to_list s.1) (tokens_from rest s.0)

-- a token, and then those of the rest
abbrev pub put : Option Token → List ℕ → Option (List Token)
put o rest = o >>= λ k. before (k ∷ []) (tokens_from rest Between)

pub put_some : (o : Option Token) (rest : List ℕ) (ts : List Token) → put o rest ≡ Some ts
    → (k : Token) × (o ≡ Some k) × (more : List Token) × (ts ≡ k ∷ more) × (tokens_from rest Between ≡ Some more)
put_some o rest ts h =
    let p : (k : Token) × (o ≡ Some k) × (before (k ∷ []) (tokens_from rest Between) ≡ Some ts) = bind-some o (λ k. before (k ∷ []) (tokens_from rest Between)) ts h in
    let q : (more : List Token) × (tokens_from rest Between ≡ Some more) × (Some (p.0 ∷ more) ≡ Some ts) = bind-some (tokens_from rest Between) (λ more. Some (p.0 ∷ more)) ts p.2 in
    (p.0, p.1, q.0, sym (same-some _ _ q.2), q.1)

-- ---- a token ends

onward : (o : Option LexState) (bs : List ℕ) → on bs (o >>= λ p. Some (p, None)) ≡ (o >>= λ p. tokens_from bs p)
onward None bs = refl
onward (Some p) bs = before-none (tokens_from bs p)

onward_with : (k : Token) (o : Option LexState) (bs : List ℕ) → on bs (o >>= λ p. Some (p, Some k)) ≡ before (k ∷ []) (o >>= λ p. tokens_from bs p)
onward_with k None bs = refl
onward_with k (Some p) bs = refl

pub start_goes : (b : ℕ) (bs : List ℕ) → tokens_from (b ∷ bs) Between ≡ (start b >>= λ p. tokens_from bs p)
start_goes b bs = onward (start b) bs

ends_goes : (o : Option Token) (b : ℕ) (bs : List ℕ) → on bs (o >>= λ k. ends k b) ≡ put o (b ∷ bs)
ends_goes None b bs = refl
ends_goes (Some k) b bs = onward_with k (start b) bs ∙ ap (before (k ∷ [])) (sym (start_goes b bs))

ends_here : (o : Option Token) → ((o >>= λ k. Some (Some k)) >>= λ t. Some (option_to_list t)) ≡ put o []
ends_here None = refl
ends_here (Some k) = refl

pub word_closes : (w bs : List ℕ) → BeginsNot is_inside bs → tokens_from bs (InWord w) ≡ put (word_token w) bs
word_closes w [] h = ends_here (word_token w)
word_closes w (b ∷ bs) h =
    ap (λ t. on bs (cond t (Some (InWord (w ++ lower_case_of b ∷ []), None)) (word_token w >>= λ k. ends k b))) (not-so (is_inside b) h) ∙ ends_goes (word_token w) b bs

pub number_closes : (n : ℕ) (bs : List ℕ) → BeginsNot is_inside bs → tokens_from bs (InNumber n) ≡ put (number_token n) bs
number_closes n [] h = ends_here (number_token n)
number_closes n (b ∷ bs) h =
    let both : (is_letter b ≡ false) × (is_digit b ≡ false) = or-parts (is_letter b) (is_digit b) (not-so (is_inside b) h) in
    ap (λ t. on bs (cond t (Some (InNumber (with_digit n b), None)) (cond (is_letter b) None (number_token n >>= λ k. ends k b)))) both.1
    ∙ ap (λ t. on bs (cond t None (number_token n >>= λ k. ends k b))) both.0 ∙ ends_goes (number_token n) b bs

pub quote_closes : (t bs : List ℕ) → BeginsNot is_quote bs → tokens_from bs (AfterQuote t) ≡ put (text_token t) bs
quote_closes t [] h = ends_here (text_token t)
quote_closes t (b ∷ bs) h =
    ap (λ c. on bs (cond c (Some (InText (t ++ b ∷ []), None)) (text_token t >>= λ k. ends k b))) (not-so (is_quote b) h) ∙ ends_goes (text_token t) b bs

pub symbol_closes : (a : ℕ) (bs : List ℕ) → BeginsNot (is_pair a) bs → tokens_from bs (InSymbol a) ≡ put (short_symbol a) bs
symbol_closes a [] h = ends_here (short_symbol a)
symbol_closes a (b ∷ bs) h =
    ap (λ c. on bs (cond c (symbol_token (a ∷ b ∷ []) >>= λ k. Some (Ended k, None)) (short_symbol a >>= λ k. ends k b))) (not-so (is_pair a b) h)
    ∙ ends_goes (short_symbol a) b bs

pub ended_closes : (k : Token) (bs : List ℕ) → tokens_from bs (Ended k) ≡ put (Some k) bs
ended_closes k [] = refl
ended_closes k (b ∷ bs) = ends_goes (Some k) b bs

-- ---- a token goes on

pub word_goes : (w : List ℕ) (b : ℕ) (bs : List ℕ) → is_inside b ≡ true → tokens_from (b ∷ bs) (InWord w) ≡ tokens_from bs (InWord (w ++ lower_case_of b ∷ []))
word_goes w b bs h =
    ap (λ t. on bs (cond t (Some (InWord (w ++ lower_case_of b ∷ []), None)) (word_token w >>= λ k. ends k b))) h ∙ before-none (tokens_from bs (InWord (w ++ lower_case_of b ∷ [])))

pub number_goes : (n b : ℕ) (bs : List ℕ) → is_digit b ≡ true → tokens_from (b ∷ bs) (InNumber n) ≡ tokens_from bs (InNumber (with_digit n b))
number_goes n b bs h =
    ap (λ t. on bs (cond t (Some (InNumber (with_digit n b), None)) (cond (is_letter b) None (number_token n >>= λ k. ends k b)))) h ∙ before-none (tokens_from bs (InNumber (with_digit n b)))

-- a word doesn't follow a number
pub number_stops : (n b : ℕ) (bs : List ℕ) → is_digit b ≡ false → is_letter b ≡ true → tokens_from (b ∷ bs) (InNumber n) ≡ None
number_stops n b bs h l =
    ap (λ t. on bs (cond t (Some (InNumber (with_digit n b), None)) (cond (is_letter b) None (number_token n >>= λ k. ends k b)))) h
    ∙ ap (λ t. on bs (cond t None (number_token n >>= λ k. ends k b))) l

pub text_goes : (t : List ℕ) (b : ℕ) (bs : List ℕ) → is_quote b ≡ false → tokens_from (b ∷ bs) (InText t) ≡ tokens_from bs (InText (t ++ b ∷ []))
text_goes t b bs h = ap (λ c. on bs (cond c (Some (AfterQuote t, None)) (Some (InText (t ++ b ∷ []), None)))) h ∙ before-none (tokens_from bs (InText (t ++ b ∷ [])))

pub text_quote : (t bs : List ℕ) → tokens_from (39 ∷ bs) (InText t) ≡ tokens_from bs (AfterQuote t)
text_quote t bs = before-none (tokens_from bs (AfterQuote t))

pub quote_quote : (t bs : List ℕ) → tokens_from (39 ∷ bs) (AfterQuote t) ≡ tokens_from bs (InText (t ++ 39 ∷ []))
quote_quote t bs = before-none (tokens_from bs (InText (t ++ 39 ∷ [])))

ended_on : (o : Option Token) (bs : List ℕ) → on bs (o >>= λ k. Some (Ended k, None)) ≡ put o bs
ended_on None bs = refl
ended_on (Some k) bs = before-none (tokens_from bs (Ended k)) ∙ ended_closes k bs

pub pair_goes : (a b : ℕ) (bs : List ℕ) → is_pair a b ≡ true → tokens_from (b ∷ bs) (InSymbol a) ≡ put (symbol_token (a ∷ b ∷ [])) bs
pair_goes a b bs h =
    ap (λ c. on bs (cond c (symbol_token (a ∷ b ∷ []) >>= λ k. Some (Ended k, None)) (short_symbol a >>= λ k. ends k b))) h ∙ ended_on (symbol_token (a ∷ b ∷ [])) bs

pub whole_goes : (o : Option Token) (bs : List ℕ) → ((o >>= λ k. Some (Ended k)) >>= λ p. tokens_from bs p) ≡ put o bs
whole_goes None bs = refl
whole_goes (Some k) bs = ended_closes k bs
