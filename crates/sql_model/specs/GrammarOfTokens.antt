-- How the tokens of SQL are written, as a relation between bytes and tokens. It says nothing about how bytes
-- are read.
use Rattle.std.specs.Prelude.{◌≡◌, ◌⊎◌, ℕ, ◌+◌, ◌-◌, ◌*◌, ◌≤◌, Bool, ◌||◌, ◌==◌, if◌then◌else◌, List, []}
use Rattle.std.specs.Prelude.{◌∷◌, ◌++◌, length, map, IsTrue, codes, pos}
use Rattle.std.specs.List.{AllByRecursion}
use Rattle.ldv_value.specs.Digits.{is_digit, AreDigits}
use Rattle.ldv_value.specs.Limits.{text_limit}
use Rattle.sql_model.specs.declared.token.Token.{Token}
use Rattle.sql_model.specs.declared.token.Token.TheVariants.{Word, Number, Quoted, Given}
use Rattle.sql_model.specs.TextBytes.{is_blank, is_letter, lower_case_of}

abbrev pub AreBlanks : List ℕ → Type 0
AreBlanks = AllByRecursion (λ b. IsTrue (is_blank b))

-- the bytes are none, or don't begin with such a byte
abbrev pub BeginsNot : (ℕ → Bool) → List ℕ → Type 0
BeginsNot test [] = Unit {0}
BeginsNot test (b ∷ bs) = ¬ IsTrue (test b)

-- a letter, a digit or `_`
abbrev pub is_inside : ℕ → Bool
is_inside b = is_letter b || is_digit b

abbrev pub is_quote : ℕ → Bool
is_quote b = b == 39

-- a letter or `_`, and then letters, digits and `_`: 63 bytes at most
abbrev pub IsWord : List ℕ → Type 0
IsWord [] = ⊥
IsWord (b ∷ bs) = IsTrue (is_letter b) × AllByRecursion (λ c. IsTrue (is_inside c)) bs
    × (length (b ∷ bs) ≤ 63)

-- the number that digits spell after those of another one
abbrev pub digits_from : ℕ → List ℕ → ℕ
digits_from n [] = n
digits_from n (d ∷ ds) = digits_from (n * 10 + (d - 48)) ds

-- a text as it stands between its quotes: each quote in it is written twice
abbrev pub with_doubled_quotes : List ℕ → List ℕ
with_doubled_quotes [] = []
with_doubled_quotes (b ∷ bs) = if is_quote b then 39 ∷ 39
    ∷ with_doubled_quotes bs else b ∷ with_doubled_quotes bs

abbrev pub symbols : List (List ℕ)
symbols =
    codes "?" ∷ codes "*" ∷ codes "+" ∷ codes "-" ∷ codes "=" ∷ codes "<>" ∷ codes "!=" ∷ codes "<"
    ∷ codes "<="
    ∷ codes ">" ∷ codes ">=" ∷ codes "(" ∷ codes ")" ∷ codes "," ∷ codes "." ∷ codes ";" ∷ []

abbrev pub IsOneOf : List (List ℕ) → List ℕ → Type 0
IsOneOf [] x = ⊥
IsOneOf (s ∷ ss) x = (x ≡ s) ⊎ IsOneOf ss x

abbrev pub IsSymbol : List ℕ → Type 0
IsSymbol = IsOneOf symbols

-- after a symbol stands no byte that makes it a longer one
abbrev pub IsWhole : List ℕ → List ℕ → Type 0
IsWhole piece [] = Unit {0}
IsWhole piece (b ∷ bs) = ¬ IsSymbol (piece ++ b ∷ [])

-- The bytes of a piece are a token, where the bytes of the rest stand directly after it. After a word or a
-- number stands no letter, digit or `_`: two of them in a row need a blank.
abbrev pub IsToken : List ℕ → List ℕ → Token → Type 0
IsToken piece rest (Word w) = (IsWord piece × (w ≡ map lower_case_of piece) × BeginsNot is_inside rest)
    ⊎ (IsSymbol piece × (w ≡ piece) × IsWhole piece rest)
IsToken piece rest (Number z) = AreDigits piece × (z ≡ pos (digits_from 0 piece))
    × (digits_from 0 piece ≤ 9223372036854775807) × BeginsNot is_inside rest
IsToken piece rest (Quoted text) = (piece ≡ 39 ∷ with_doubled_quotes text ++ 39 ∷ [])
    × (length text ≤ text_limit)
    × BeginsNot is_quote rest
IsToken piece rest (Given v) = ⊥

-- Bytes spell these tokens: blanks may stand before and after each.
abbrev pub Spells : List ℕ → List Token → Type 0
Spells bytes [] = AreBlanks bytes
Spells bytes (t ∷ ts) = (front : List ℕ) × (piece : List ℕ) × (rest : List ℕ)
    × (bytes ≡ front ++ (piece ++ rest)) × AreBlanks front × IsToken piece rest t × Spells rest ts
