-- The first bad line of bytes that aren't a script, and what makes a line bad, by the grammar.
use Rattle.std.specs.Prelude.{◌≡◌, ◌⊎◌, ℕ, ◌+◌, ◌≤◌, List, [], ◌∷◌, ◌++◌, length, IsUtf8, Some}
use Rattle.script_parse.specs.declared.script.Instr.{Instr}
use Rattle.script_parse.specs.declared.token.Token.{Token}
use Rattle.script_parse.specs.Grammar.{Kind, Names, AreLines, AreTokens, HasForm, IsKind, IsLine, IsName}
use Rattle.script_parse.specs.Grammar.{place_of, tokens_for}

-- any label at any place: what a line is, apart from the other lines
abbrev pub Anywhere : List ℕ → ℕ → Type 0
Anywhere l place = Unit {0}

-- it is empty, a comment, a label or an instruction
abbrev pub HasAForm : List ℕ → Type 0
HasAForm line = (kind : Kind) × IsKind Anywhere line kind

abbrev pub Defines : List ℕ → List ℕ → Type 0
Defines l line = IsLine Anywhere line (Names l)

-- one of the lines defines the label
abbrev pub IsDefined : List ℕ → List (List ℕ) → Type 0
IsDefined l [] = ⊥
IsDefined l (line ∷ lines) = Defines l line ⊎ IsDefined l lines

-- the line is an instruction that names the label
abbrev pub Uses : List ℕ → List ℕ → Type 0
Uses l line = (ts : List Token) × (i : Instr) × (place : ℕ) × AreTokens line ts
    × HasForm i × IsName l × (place_of i ≡ Some place) × (ts ≡ tokens_for i l)

-- A line is bad among the lines before and after it: its bytes aren't UTF-8, it has none of the forms, it
-- defines a label that an earlier line defines, or it uses a label that no line defines.
abbrev pub IsBadLine : List (List ℕ) → List ℕ → List (List ℕ) → Type 0
IsBadLine front line back = (¬ IsUtf8 line)
    ⊎ (¬ HasAForm line)
    ⊎ ((l : List ℕ) × Defines l line × IsDefined l front)
    ⊎ ((l : List ℕ) × Uses l line × (¬ IsDefined l (front ++ line ∷ back)))

-- the line of this number, from 1, is bad
abbrev pub IsBad : List (List ℕ) → ℕ → Type 0
IsBad lines n = (front : List (List ℕ)) × (line : List ℕ) × (back : List (List ℕ))
    × (lines ≡ front ++ line ∷ back) × (n ≡ length front + 1) × IsBadLine front line back

-- and it is the least one
abbrev pub IsFirstBad : List (List ℕ) → ℕ → Type 0
IsFirstBad lines n = IsBad lines n × ((m : ℕ) → IsBad lines m → n ≤ m)

abbrev pub IsFirstBadLine : List ℕ → ℕ → Type 0
IsFirstBadLine bytes n = (lines : List (List ℕ)) × AreLines bytes lines × IsFirstBad lines n
