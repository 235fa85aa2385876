-- The tokens of a text of SQL: each constant among them is good, and they are no more than its bytes.
use Rattle.std.proofs.Common.{◌≡◌, ℕ, ◌<◌, ◌≤◌, List, [], ◌∷◌, ◌++◌, append_assoc, length, refl, sym, ap, ◌∙◌, subst, inl, inr, arith, w64}
use Rattle.std.specs.Prelude.{ℤ, pos, FitsSigned, IsTrue, IsUtf8}
use Rattle.std.specs.List.{AllByRecursion}
use Rattle.std.proofs.lemmas.Bool.{le-leb}
use Rattle.ldv_value.specs.Limits.{text_limit}
use Rattle.ldv_value.proofs.Lists.{length-append}
use Rattle.ldv_value.proofs.Utf8Parts.{utf8-tail, utf8-cut, utf8-rest}
use Rattle.sql_laws.specs.Types.{Value, Int, Text}
use Rattle.sql_model.specs.declared.token.Token.{Token}
use Rattle.sql_model.specs.declared.token.Token.TheVariants.{Word, Number, Quoted, Given}
use Rattle.sql_model.specs.GrammarOfStatements.{IsGiven}
use Rattle.sql_model.specs.GrammarOfTokens.{digits_from, with_doubled_quotes, IsToken, Spells}
use Rattle.sql_model.specs.TextBytes.{is_blank}
use Rattle.sql_parse.proofs.Choices.{or_go}
use Rattle.sql_parse.proofs.Quotes.{doubled_utf8}
use Rattle.sql_parse.proofs.Symbols.{symbol_form}
use Rattle.sql_parse.proofs.TokensRead.{after_token}
use Rattle.value_laws.specs.Values.{GoodValue, GoodValues}
use Rattle.value_laws.proofs.LowBytes.{low_as, all_low}

-- a constant is good
abbrev pub GoodToken : Token → Type 0
GoodToken (Word w) = Unit {0}
GoodToken (Number z) = GoodValue (Int z)
GoodToken (Quoted t) = GoodValue (Text t)
GoodToken (Given v) = GoodValue v

abbrev pub GoodTokens : List Token → Type 0
GoodTokens = AllByRecursion GoodToken

-- ---- bytes below 128

blank_low : (b : ℕ) → IsTrue (is_blank b) → b < 128
blank_low b h = or_go _ _ h (λ h. or_go _ _ h (λ h. or_go _ _ h (low_as b 32 (omega arith)) (low_as b 9 (omega arith))) (low_as b 10 (omega arith))) (low_as b 13 (omega arith))

-- ---- one token, and what stands after it

number_fits : (n : ℕ) → n ≤ 9223372036854775807 → FitsSigned w64 (pos n)
number_fits n fits = record { sfits = omega (arith, fits) }

-- the bytes after the first quote
unquoted : (piece rest text : List ℕ) → piece ≡ 39 ∷ with_doubled_quotes text ++ 39 ∷ [] → IsUtf8 (piece ++ rest) → IsUtf8 (with_doubled_quotes text) × IsUtf8 (39 ∷ rest)
unquoted piece rest text e utf8 =
    let same : piece ++ rest ≡ 39 ∷ with_doubled_quotes text ++ 39 ∷ rest =
    ap (λ (l : List ℕ). l ++ rest) e ∙ ap (λ (l : List ℕ). 39 ∷ l) (append_assoc (with_doubled_quotes text) (39 ∷ []) rest) in
    utf8-cut (with_doubled_quotes text) 39 rest (omega arith) (utf8-tail 39 (with_doubled_quotes text ++ 39 ∷ rest) (omega arith) (subst IsUtf8 same utf8))

token_good : (t : Token) (piece rest : List ℕ) → IsUtf8 (piece ++ rest) → IsToken piece rest t → GoodToken t
token_good (Word w) piece rest utf8 is = tt
token_good (Number z) piece rest utf8 (digits, e, fits, ends) =
    subst (λ (n : ℤ). GoodToken (Number n)) (sym e) (number_fits (digits_from 0 piece) fits, refl)
token_good (Quoted text) piece rest utf8 (e, short, ends) =
    (doubled_utf8 text (unquoted piece rest text e utf8).0, le-leb (length text) text_limit short)
token_good (Given v) piece rest utf8 is = absurd is

token_filled : (t : Token) (piece rest : List ℕ) → IsToken piece rest t → 1 ≤ length piece
token_filled t (b ∷ piece) rest is = omega arith
token_filled (Word w) [] rest (inl is) = absurd is.0
token_filled (Word w) [] rest (inr is) = absurd (symbol_form [] is.0)
token_filled (Number z) [] rest is = absurd (is.0.0 refl)
token_filled (Quoted text) [] rest is = let no : [] ≡ 39 ∷ with_doubled_quotes text ++ 39 ∷ [] = is.0 in absurd cc
token_filled (Given v) [] rest is = absurd is

-- ---- all of them

pub tokens_good : (ts : List Token) (bytes : List ℕ) → IsUtf8 bytes → Spells bytes ts → GoodTokens ts
tokens_good [] bytes utf8 h = tt
tokens_good (t ∷ ts) bytes utf8 (front, piece, rest, e, blanks, is, more) =
    let behind : IsUtf8 (piece ++ rest) = utf8-rest front (piece ++ rest) (all_low (λ c. IsTrue (is_blank c)) blank_low front blanks) (subst IsUtf8 e utf8) in
    (token_good t piece rest behind is, tokens_good ts rest (after_token t piece rest behind is) more)

pub tokens_few : (ts : List Token) (bytes : List ℕ) → Spells bytes ts → length ts ≤ length bytes
tokens_few [] bytes h = omega arith
tokens_few (t ∷ ts) bytes (front, piece, rest, e, blanks, is, more) =
    omega (arith, token_filled t piece rest is, tokens_few ts rest more, ap length e, length-append front (piece ++ rest), length-append piece rest)

-- ---- the values of parameters in their places

pub given_good : (params : List Value) (ts given : List Token) → GoodValues params → GoodTokens ts → IsGiven params ts given → GoodTokens given
given_good params [] given values good (none, is) = subst GoodTokens (sym is) tt
given_good params (t ∷ ts) given values good (inl (question, (v, more, rest, from, are, back))) =
    let front : GoodValues (v ∷ more) = subst GoodValues from values in
    subst GoodTokens (sym are) (front.0, given_good more ts rest front.1 good.1 back)
given_good params (t ∷ ts) given values good (inr (other, (rest, are, back))) =
    subst GoodTokens (sym are) (good.0, given_good params ts rest values good.1 back)

pub given_few : (params : List Value) (ts given : List Token) → IsGiven params ts given → length given ≤ length ts
given_few params [] given (none, is) = omega (arith, ap length is)
given_few params (t ∷ ts) given (inl (question, (v, more, rest, from, are, back))) = omega (arith, given_few more ts rest back, ap length are)
given_few params (t ∷ ts) given (inr (other, (rest, are, back))) = omega (arith, given_few params ts rest back, ap length are)
