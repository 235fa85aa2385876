-- The grammar of scripts, as a relation between bytes and instructions. It says how each thing is written,
-- from the instructions to the bytes, and never how they are read.
use Rattle.std.specs.Prelude.{◌≡◌, ◌≢◌, ◌⊎◌, ℕ, ◌+◌, ◌^◌, ◌<◌, ◌≤◌, List, [], ◌∷◌, ◌++◌, length, map, IsTrue}
use Rattle.std.specs.Prelude.{IsUtf8, ℤ, pos, neg_ℤ, codes, Option, Some, None}
use Rattle.std.specs.List.{AllZip, AllByRecursion}
use Prim.Native.String.{String}
use Rattle.ldv_value.specs.Digits.{AreDigits}
use Rattle.ldv_value.specs.Limits.{text_limit, max_operands}
use Rattle.ldv_value.specs.declared.value.Value.TheVariants as value
use Rattle.script_parse.specs.declared.script.Operand.{Operand}
use Rattle.script_parse.specs.declared.script.Operand.TheVariants.{Constant, Variable}
use Rattle.script_parse.specs.declared.script.CalcOp.{CalcOp}
use Rattle.script_parse.specs.declared.script.CalcOp.TheVariants.{Add, Subtract, Multiply}
use Rattle.script_parse.specs.declared.script.Instr.{Instr}
use Rattle.script_parse.specs.declared.script.Instr.TheVariants.{Let, Calc, Glue, ToInt, Cut, Jump, JumpIf}
use Rattle.script_parse.specs.declared.script.Instr.TheVariants.{Print, Exit, OpenPath, ReadLine, WriteLine}
use Rattle.script_parse.specs.declared.script.Instr.TheVariants.{CopyRest, Close, Remove, Exists, Spawn, Wait}
use Rattle.script_parse.specs.declared.script.Instr.TheVariants.{Sql, Fetch, Count, Status}
use Rattle.script_parse.specs.declared.token.Token.{Token}
use Rattle.script_parse.specs.declared.token.Token.TheVariants.{Word, Number, Quoted}
use Rattle.script_parse.specs.Keywords.{comparison_text, mode_text}
use Rattle.script_parse.specs.Names.{name_test}
use Rattle.script_parse.specs.Number.{digits_from}
use Rattle.script_parse.specs.Tokens.{is_blank}

-- LINES

-- Bytes are these lines: each line ends at its LF, and a CR right before that is no part of it. The last line
-- may lack its LF; then it isn't empty.
abbrev pub HasNoFeed : List ℕ → Type 0
HasNoFeed = AllByRecursion (λ b. b ≢ 10)

abbrev pub EndsInReturn : List ℕ → Type 0
EndsInReturn line = (front : List ℕ) × (line ≡ front ++ 13 ∷ [])

abbrev pub IsEnded : List ℕ → List ℕ → List ℕ → Type 0
IsEnded bytes line rest = ((bytes ≡ line ++ 10 ∷ rest) × (¬ EndsInReturn line))
    ⊎ (bytes ≡ line ++ 13 ∷ 10 ∷ rest)

abbrev pub AreLines : List ℕ → List (List ℕ) → Type 0
AreLines bytes [] = bytes ≡ []
AreLines bytes (line ∷ lines) = HasNoFeed line
    × (((bytes ≡ line) × (line ≢ []) × (lines ≡ [])) ⊎ ((rest : List ℕ) × IsEnded bytes line rest
    × AreLines rest lines))

-- TOKENS

-- An optional `-` and digits, within i64.
abbrev pub IsNumber : List ℕ → ℤ → Type 0
IsNumber piece z = (ds : List ℕ) × AreDigits ds
    × (((piece ≡ ds) × (z ≡ pos (digits_from 0 ds)) × (digits_from 0 ds < 2 ^ 63))
    ⊎ ((piece ≡ 45 ∷ ds) × (z ≡ neg_ℤ (pos (digits_from 0 ds))) × (digits_from 0 ds ≤ 2 ^ 63)))

-- The letter after a backslash: `n` for LF, `t` for a tab, the quote and the backslash for themselves.
abbrev pub Escapes : ℕ → ℕ → Type 0
Escapes letter b = ((letter ≡ 110) × (b ≡ 10)) ⊎ ((letter ≡ 116) × (b ≡ 9)) ⊎ ((letter ≡ 34) × (b ≡ 34))
    ⊎ ((letter ≡ 92) × (b ≡ 92))

-- A text between its quotes: each byte but a quote and a backslash may be itself.
abbrev pub Spells : List ℕ → List ℕ → Type 0
Spells body [] = body ≡ []
Spells body (b ∷ text) = (rest : List ℕ) × Spells rest text
    × (((body ≡ b ∷ rest) × (b ≢ 34) × (b ≢ 92)) ⊎ ((letter : ℕ) × (body ≡ 92 ∷ letter ∷ rest)
    × Escapes letter b))

-- Without quotes: no blank, and no quote in front.
abbrev pub IsBare : List ℕ → Type 0
IsBare piece = (piece ≢ []) × AllByRecursion (λ b. ¬ IsTrue (is_blank b)) piece
    × ((rest : List ℕ) → piece ≢ 34 ∷ rest)

abbrev pub IsToken : List ℕ → Token → Type 0
IsToken piece (Word w) = (piece ≡ w) × IsBare piece × ((z : ℤ) → ¬ IsNumber piece z)
IsToken piece (Number z) = IsNumber piece z
IsToken piece (Quoted text) = (body : List ℕ) × (piece ≡ 34 ∷ body ++ 34 ∷ []) × Spells body text
    × (length text ≤ text_limit)

abbrev pub AreBlanks : List ℕ → Type 0
AreBlanks = AllByRecursion (λ b. IsTrue (is_blank b))

-- what may follow a token
abbrev pub EndsToken : List ℕ → Type 0
EndsToken [] = Unit {0}
EndsToken (b ∷ rest) = IsTrue (is_blank b)

-- A line of these tokens: blanks at both ends, and one and more between two tokens.
abbrev pub AreTokens : List ℕ → List Token → Type 0
AreTokens line [] = AreBlanks line
AreTokens line (t ∷ ts) = (front : List ℕ) × (piece : List ℕ) × (rest : List ℕ)
    × (line ≡ front ++ (piece ++ rest)) × AreBlanks front × IsToken piece t × EndsToken rest
    × AreTokens rest ts

-- INSTRUCTIONS

abbrev pub IsName : List ℕ → Type 0
IsName x = IsTrue (name_test x)

-- an operand as a token
abbrev pub operand_token : Operand → Token
operand_token (Constant value.Null) = Word (codes "null")
operand_token (Constant (value.Int z)) = Number z
operand_token (Constant (value.Text text)) = Quoted text
operand_token (Variable x) = Word x

abbrev pub IsOperand : Operand → Type 0
IsOperand (Constant v) = Unit {0}
IsOperand (Variable x) = IsName x

-- 255 operands, or names, beside the first one
abbrev pub AreOperands : ℕ → List Operand → Type 0
AreOperands most vs = (length vs ≤ most) × AllByRecursion IsOperand vs

abbrev pub AreNames : ℕ → List (List ℕ) → Type 0
AreNames most xs = (length xs ≤ most) × AllByRecursion IsName xs

abbrev pub word : String → Token
word s = Word (codes s)

abbrev pub calc_text : CalcOp → List ℕ
calc_text Add = codes "+"
calc_text Subtract = codes "-"
calc_text Multiply = codes "*"

-- The tokens of an instruction that names the label l, if it names one.
abbrev pub tokens_for : Instr → List ℕ → List Token
tokens_for (Let x v) l = word "let" ∷ Word x ∷ word "=" ∷ operand_token v ∷ []
tokens_for (Calc x op v w) l = word "let" ∷ Word x ∷ word "="
    ∷ operand_token v ∷ Word (calc_text op) ∷ operand_token w
    ∷ []
tokens_for (Glue x v w) l = word "let" ∷ Word x ∷ word "="
    ∷ operand_token v ∷ word "++" ∷ operand_token w ∷ []
tokens_for (ToInt x v) l = word "let" ∷ Word x ∷ word "=" ∷ word "int" ∷ operand_token v ∷ []
tokens_for (Cut x y v) l = word "cut" ∷ Word x ∷ Word y ∷ operand_token v ∷ []
tokens_for (Jump place) l = word "goto" ∷ Word l ∷ []
tokens_for (JumpIf op v w place) l = word "if" ∷ operand_token v ∷ Word (comparison_text op) ∷ operand_token w
    ∷ word "goto" ∷ Word l ∷ []
tokens_for (Print vs) l = word "print" ∷ map operand_token vs
tokens_for (Exit v) l = word "exit" ∷ operand_token v ∷ []
tokens_for (OpenPath f mode v place) l = word "open" ∷ Word f ∷ Word (mode_text mode) ∷ operand_token v
    ∷ word "else" ∷ Word l ∷ []
tokens_for (ReadLine x f place) l = word "readline" ∷ Word x ∷ Word f ∷ word "else" ∷ Word l ∷ []
tokens_for (WriteLine f vs) l = word "write" ∷ Word f ∷ map operand_token vs
tokens_for (CopyRest f g) l = word "copy" ∷ Word f ∷ Word g ∷ []
tokens_for (Close f) l = word "close" ∷ Word f ∷ []
tokens_for (Remove v place) l = word "remove" ∷ operand_token v ∷ word "else" ∷ Word l ∷ []
tokens_for (Exists x v) l = word "exists" ∷ Word x ∷ operand_token v ∷ []
tokens_for (Spawn p v vs place) l = word "spawn" ∷ Word p
    ∷ operand_token v ∷ map operand_token vs ++ word "else"
    ∷ Word l ∷ []
tokens_for (Wait x p) l = word "wait" ∷ Word x ∷ Word p ∷ []
tokens_for (Sql c v vs) l = word "sql" ∷ Word c ∷ operand_token v ∷ map operand_token vs
tokens_for (Fetch c xs place) l = word "fetch" ∷ Word c ∷ map Word xs ++ word "else" ∷ Word l ∷ []
tokens_for (Count x c) l = word "count" ∷ Word x ∷ Word c ∷ []
tokens_for (Status x c) l = word "status" ∷ Word x ∷ Word c ∷ []

-- What holds of the parts of an instruction.
abbrev pub HasForm : Instr → Type 0
HasForm (Let x v) = IsName x × IsOperand v
HasForm (Calc x op v w) = IsName x × IsOperand v × IsOperand w
HasForm (Glue x v w) = IsName x × IsOperand v × IsOperand w
HasForm (ToInt x v) = IsName x × IsOperand v
HasForm (Cut x y v) = IsName x × IsName y × (x ≢ y) × IsOperand v
HasForm (Jump place) = Unit {0}
HasForm (JumpIf op v w place) = IsOperand v × IsOperand w
HasForm (Print vs) = (vs ≢ []) × AreOperands (max_operands + 1) vs
HasForm (Exit v) = IsOperand v
HasForm (OpenPath f mode v place) = IsName f × IsOperand v
HasForm (ReadLine x f place) = IsName x × IsName f
HasForm (WriteLine f vs) = IsName f × (vs ≢ []) × AreOperands (max_operands + 1) vs
HasForm (CopyRest f g) = IsName f × IsName g
HasForm (Close f) = IsName f
HasForm (Remove v place) = IsOperand v
HasForm (Exists x v) = IsName x × IsOperand v
HasForm (Spawn p v vs place) = IsName p × IsOperand v × AreOperands max_operands vs
HasForm (Wait x p) = IsName x × IsName p
HasForm (Sql c v vs) = IsName c × IsOperand v × AreOperands max_operands vs
HasForm (Fetch c xs place) = IsName c × (xs ≢ []) × AreNames (max_operands + 1) xs
HasForm (Count x c) = IsName x × IsName c
HasForm (Status x c) = IsName x × IsName c

-- The place of the label that an instruction names.
abbrev pub place_of : Instr → Option ℕ
place_of (Jump place) = Some place
place_of (JumpIf op v w place) = Some place
place_of (OpenPath f mode v place) = Some place
place_of (ReadLine x f place) = Some place
place_of (Remove v place) = Some place
place_of (Spawn p v vs place) = Some place
place_of (Fetch c xs place) = Some place
place_of (Let x v) = None
place_of (Calc x op v w) = None
place_of (Glue x v w) = None
place_of (ToInt x v) = None
place_of (Cut x y v) = None
place_of (Print vs) = None
place_of (Exit v) = None
place_of (WriteLine f vs) = None
place_of (CopyRest f g) = None
place_of (Close f) = None
place_of (Exists x v) = None
place_of (Wait x p) = None
place_of (Sql c v vs) = None
place_of (Count x c) = None
place_of (Status x c) = None

-- At says which label is at which place.
abbrev pub IsAtPlace : (List ℕ → ℕ → Type 0) → Instr → List Token → Option ℕ → Type 0
IsAtPlace At i ts None = ts ≡ tokens_for i []
IsAtPlace At i ts (Some place) = (l : List ℕ) × IsName l × At l place × (ts ≡ tokens_for i l)

abbrev pub IsInstruction : (List ℕ → ℕ → Type 0) → Instr → List Token → Type 0
IsInstruction At i ts = HasForm i × IsAtPlace At i ts (place_of i)

-- SCRIPTS

-- What a line is: empty or a comment, a label, or an instruction.
pub data Kind : Type 0 where
  Blank : Kind
  Names : List ℕ → Kind
  Does : Instr → Kind

abbrev pub IsComment : List ℕ → Type 0
IsComment line = (front : List ℕ) × (rest : List ℕ) × AreBlanks front × (line ≡ front ++ 35 ∷ rest)

abbrev pub IsKind : (List ℕ → ℕ → Type 0) → List ℕ → Kind → Type 0
IsKind At line Blank = AreBlanks line ⊎ IsComment line
IsKind At line (Names l) = IsName l × AreTokens line (Word (l ++ codes ":") ∷ [])
IsKind At line (Does i) = (ts : List Token) × AreTokens line ts × IsInstruction At i ts

abbrev pub IsLine : (List ℕ → ℕ → Type 0) → List ℕ → Kind → Type 0
IsLine At line kind = IsUtf8 line × IsKind At line kind

-- the instructions, in the order of the lines
abbrev pub steps : List Kind → List Instr
steps [] = []
steps (Blank ∷ kinds) = steps kinds
steps (Names l ∷ kinds) = steps kinds
steps (Does i ∷ kinds) = i ∷ steps kinds

-- the labels that the lines define
abbrev pub labels : List Kind → List (List ℕ)
labels [] = []
labels (Blank ∷ kinds) = labels kinds
labels (Names l ∷ kinds) = l ∷ labels kinds
labels (Does i ∷ kinds) = labels kinds

abbrev pub AllDiffer : List (List ℕ) → Type 0
AllDiffer [] = Unit {0}
AllDiffer (l ∷ ls) = AllByRecursion (λ other. l ≢ other) ls × AllDiffer ls

-- The label is at the place: that is the number of instructions before the line that defines it.
abbrev pub IsAt : List Kind → List ℕ → ℕ → Type 0
IsAt kinds l place = (front : List Kind) × (back : List Kind) × (kinds ≡ front ++ Names l ∷ back)
    × (place ≡ length (steps front))

abbrev pub IsScript : List ℕ → List Instr → Type 0
IsScript bytes instructions = (lines : List (List ℕ)) × (kinds : List Kind)
    × AreLines bytes lines × AllZip (IsLine (IsAt kinds)) lines kinds × AllDiffer (labels kinds)
    × (instructions ≡ steps kinds)
