-- The tokens of a line of a script: each constant among them is good.
use Rattle.std.proofs.Common.{ℕ, zero, suc, ◌<◌, ◌≤◌, ◌^◌, List, [], ◌∷◌, ◌++◌, length, refl, sym, subst, inl, inr, arith, w64}
use Rattle.std.specs.Prelude.{ℤ, pos, neg_ℤ, FitsSigned, IsTrue, IsUtf8}
use Rattle.std.specs.List.{AllByRecursion}
use Rattle.std.proofs.lemmas.Bool.{le-leb}
use Rattle.ldv_value.specs.Limits.{text_limit}
use Rattle.ldv_value.proofs.Utf8Parts.{utf8-tail, utf8-cut, utf8-rest}
use Rattle.script_parse.specs.declared.token.Token.{Token}
use Rattle.script_parse.specs.declared.token.Token.TheVariants.{Word, Number, Quoted}
use Rattle.script_parse.specs.Grammar.{IsNumber, IsToken, AreTokens}
use Rattle.script_parse.specs.Number.{digits_from}
use Rattle.script_parse.specs.Tokens.{is_blank}
use Rattle.script_parse.proofs.Utf8Law.{spells_utf8}
use Rattle.script_parse.proofs.TokensRead.{utf8_parts, blank_low}
use Rattle.sql_laws.specs.Types.{Int, Text}
use Rattle.value_laws.specs.Values.{GoodValue}
use Rattle.value_laws.proofs.LowBytes.{all_low}

-- a constant is good
abbrev pub GoodPiece : Token → Type 0
GoodPiece (Word w) = Unit {0}
GoodPiece (Number z) = GoodValue (Int z)
GoodPiece (Quoted t) = GoodValue (Text t)

abbrev pub GoodPieces : List Token → Type 0
GoodPieces = AllByRecursion GoodPiece

-- ---- one token

negative_fits : (n : ℕ) → n ≤ 2 ^ 63 → FitsSigned w64 (neg_ℤ (pos n))
negative_fits zero h = record { sfits = omega arith }
negative_fits (suc m) h = record { sfits = omega (arith, h) }

positive_fits : (n : ℕ) → n < 2 ^ 63 → FitsSigned w64 (pos n)
positive_fits n h = record { sfits = h }

-- what a number of a script is fits
pub number_fits : (piece : List ℕ) (z : ℤ) → IsNumber piece z → FitsSigned w64 z
number_fits piece z (digits, are, inl (e, is, below)) = subst (FitsSigned w64) (sym is) (positive_fits (digits_from 0 digits) below)
number_fits piece z (digits, are, inr (e, is, within)) = subst (FitsSigned w64) (sym is) (negative_fits (digits_from 0 digits) within)

piece_good : (t : Token) (piece : List ℕ) → IsUtf8 piece → IsToken piece t → GoodPiece t
piece_good (Word w) piece utf8 is = tt
piece_good (Number z) piece utf8 is = (number_fits piece z is, refl)
piece_good (Quoted text) piece utf8 (body, e, spells, short) =
    let inner : IsUtf8 (body ++ 34 ∷ []) = utf8-tail 34 (body ++ 34 ∷ []) (omega arith) (subst IsUtf8 e utf8) in
    let between : IsUtf8 body = (utf8-cut body 34 [] (omega arith) inner).0 in
    (spells_utf8 (length text) body text (omega arith) spells between, le-leb (length text) text_limit short)

-- ---- all of them

pub pieces_good : (ts : List Token) (line : List ℕ) → IsUtf8 line → AreTokens line ts → GoodPieces ts
pieces_good [] line utf8 are = tt
pieces_good (t ∷ ts) line utf8 (front, piece, rest, e, blanks, is, ends, more) =
    let behind : IsUtf8 (piece ++ rest) = utf8-rest front (piece ++ rest) (all_low (λ b. IsTrue (is_blank b)) blank_low front blanks) (subst IsUtf8 e utf8) in
    let parts = utf8_parts piece rest ends behind in
    (piece_good t piece parts.0 is, pieces_good ts rest parts.1 more)
