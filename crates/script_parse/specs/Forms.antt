-- From the tokens of a line to what the line says.
use Rattle.std.specs.Prelude.{ℕ, ◌+◌, List, [], ◌∷◌, length, take, drop, Bool, false, not, nat_le}
use Rattle.std.specs.Prelude.{if◌then◌else◌, Option, Some, None, position, codes}
use Rattle.ldv_value.specs.Limits.{max_operands}
use Rattle.ldv_value.specs.declared.value.Value.TheVariants as value
use Rattle.ldv_value.specs.declared.value.Cmp.{Cmp}
use Rattle.ldv_value.specs.declared.file.OpenMode.{OpenMode}
use Rattle.script_parse.specs.declared.script.Operand.{Operand}
use Rattle.script_parse.specs.declared.script.Operand.TheVariants.{Constant, Variable}
use Rattle.script_parse.specs.declared.script.CalcOp.TheVariants.{Add, Subtract, Multiply}
use Rattle.script_parse.specs.declared.script.Instr.{Instr}
use Rattle.script_parse.specs.declared.script.Instr.TheVariants as instr
use Rattle.script_parse.specs.declared.token.Token.{Token}
use Rattle.script_parse.specs.declared.token.Token.TheVariants.{Word, Number, Quoted}
use Rattle.script_parse.specs.declared.keyword.Keyword.{Keyword}
use Rattle.script_parse.specs.declared.keyword.Keyword.TheVariants.{Let, Cut, Goto, If, Print, Exit, Open}
use Rattle.script_parse.specs.declared.keyword.Keyword.TheVariants.{ReadLine, Write, Copy, Close, Remove}
use Rattle.script_parse.specs.declared.keyword.Keyword.TheVariants.{Exists, Spawn, Wait, Sql, Fetch, Count}
use Rattle.script_parse.specs.declared.keyword.Keyword.TheVariants.{Status}
use Rattle.script_parse.specs.declared.keyword.Sign.{Sign}
use Rattle.script_parse.specs.declared.keyword.Sign.TheVariants.{Plus, Minus, Times, Join}
use Rattle.script_parse.specs.declared.line.Line.{Line}
use Rattle.script_parse.specs.declared.line.Line.TheVariants.{Plain, Jumping}
use Rattle.ldv_value.specs.Options.{only_if, ◌>>=◌}
use Rattle.script_parse.specs.Keywords.{sign_of, comparison_of, mode_of}
use Rattle.script_parse.specs.Names.{is_text, name_test}

-- what each of the items gives, in order, where each gives something
abbrev pub each : {A B : Type 0} → (A → Option B) → List A → Option (List B)
each f [] = Some []
each f (x ∷ xs) = f x >>= λ y. each f xs >>= λ ys. Some (y ∷ ys)

abbrev pub word_of : Token → Option (List ℕ)
word_of (Word w) = Some w
word_of (Number z) = None
word_of (Quoted t) = None

abbrev pub is_word : List ℕ → Token → Bool
is_word text (Word w) = is_text w text
is_word text (Number z) = false
is_word text (Quoted t) = false

abbrev pub name_in : List ℕ → Option (List ℕ)
name_in w = only_if (name_test w) (Some w)

abbrev pub name_of : Token → Option (List ℕ)
name_of t = word_of t >>= name_in

abbrev pub word_operand : List ℕ → Option Operand
word_operand w =
    if is_text w (codes "null") then Some (Constant value.Null)
    else (name_in w >>= λ x. Some (Variable x))

abbrev pub operand_of : Token → Option Operand
operand_of (Word w) = word_operand w
operand_of (Number z) = Some (Constant (value.Int z))
operand_of (Quoted t) = Some (Constant (value.Text t))

-- no more than 255 operands
abbrev pub operands_of : List Token → Option (List Operand)
operands_of ts = only_if (nat_le (length ts) max_operands) (each operand_of ts)

-- one operand and at most 255 more
abbrev pub operands_from_one : List Token → Option (List Operand)
operands_from_one [] = None
operands_from_one (t ∷ ts) = only_if (nat_le (length ts) max_operands) (each operand_of (t ∷ ts))

-- one name and at most 255 more
abbrev pub names_from_one : List Token → Option (List (List ℕ))
names_from_one [] = None
names_from_one (t ∷ ts) = only_if (nat_le (length ts) max_operands) (each name_of (t ∷ ts))

abbrev pub sign_in : Token → Option Sign
sign_in t = word_of t >>= sign_of

abbrev pub comparison_in : Token → Option Cmp
comparison_in t = word_of t >>= comparison_of

abbrev pub mode_in : Token → Option OpenMode
mode_in t = word_of t >>= mode_of

-- `x = v` with a sign and a second operand, after `let`
abbrev pub instr_of_sign : List ℕ → Operand → Operand → Sign → Instr
instr_of_sign x v w Plus = instr.Calc x Add v w
instr_of_sign x v w Minus = instr.Calc x Subtract v w
instr_of_sign x v w Times = instr.Calc x Multiply v w
instr_of_sign x v w Join = instr.Glue x v w

-- what follows `let x =`
abbrev pub let_value : List ℕ → List Token → Option Instr
let_value x [] = None
let_value x (v ∷ []) = do
  value ← operand_of v
  Some (instr.Let x value)
let_value x (i ∷ v ∷ []) = do
  value ← operand_of v
  only_if (is_word (codes "int") i) (Some (instr.ToInt x value))
let_value x (v ∷ s ∷ w ∷ []) = do
  left ← operand_of v
  sign ← sign_in s
  right ← operand_of w
  Some (instr_of_sign x left right sign)
let_value x (a ∷ b ∷ c ∷ d ∷ more) = None

-- After the first word. A place that isn't known yet is 0.
abbrev pub let_of : List Token → Option Line
let_of [] = None
let_of (x ∷ []) = None
let_of (x ∷ equals ∷ rest) = do
  to ← name_of x
  made ← let_value to rest
  only_if (is_word (codes "=") equals) (Some (Plain made))

abbrev pub cut_of : List Token → Option Line
cut_of (x ∷ y ∷ v ∷ []) = do
  front ← name_of x
  back ← name_of y
  by ← operand_of v
  only_if (not (is_text front back)) (Some (Plain (instr.Cut front back by)))
cut_of _ = None

abbrev pub goto_of : List Token → Option Line
goto_of (l ∷ []) = do
  label ← name_of l
  Some (Jumping (instr.Jump 0) label)
goto_of _ = None

abbrev pub if_of : List Token → Option Line
if_of (v ∷ c ∷ w ∷ g ∷ l ∷ []) = do
  left ← operand_of v
  op ← comparison_in c
  right ← operand_of w
  label ← name_of l
  only_if (is_word (codes "goto") g) (Some (Jumping (instr.JumpIf op left right 0) label))
if_of _ = None

abbrev pub print_of : List Token → Option Line
print_of ts = do
  values ← operands_from_one ts
  Some (Plain (instr.Print values))

abbrev pub exit_of : List Token → Option Line
exit_of (v ∷ []) = do
  status ← operand_of v
  Some (Plain (instr.Exit status))
exit_of _ = None

abbrev pub write_of : List Token → Option Line
write_of [] = None
write_of (f ∷ ts) = do
  file ← name_of f
  values ← operands_from_one ts
  Some (Plain (instr.WriteLine file values))

abbrev pub copy_of : List Token → Option Line
copy_of (f ∷ g ∷ []) = do
  source ← name_of f
  target ← name_of g
  Some (Plain (instr.CopyRest source target))
copy_of _ = None

abbrev pub close_of : List Token → Option Line
close_of (f ∷ []) = do
  file ← name_of f
  Some (Plain (instr.Close file))
close_of _ = None

abbrev pub exists_of : List Token → Option Line
exists_of (x ∷ v ∷ []) = do
  to ← name_of x
  path ← operand_of v
  Some (Plain (instr.Exists to path))
exists_of _ = None

abbrev pub wait_of : List Token → Option Line
wait_of (x ∷ p ∷ []) = do
  to ← name_of x
  child ← name_of p
  Some (Plain (instr.Wait to child))
wait_of _ = None

abbrev pub sql_of : List Token → Option Line
sql_of (c ∷ v ∷ ts) = do
  cursor ← name_of c
  text ← operand_of v
  params ← operands_of ts
  Some (Plain (instr.Sql cursor text params))
sql_of _ = None

abbrev pub count_of : List Token → Option Line
count_of (x ∷ c ∷ []) = do
  to ← name_of x
  cursor ← name_of c
  Some (Plain (instr.Count to cursor))
count_of _ = None

abbrev pub status_of : List Token → Option Line
status_of (x ∷ c ∷ []) = do
  to ← name_of x
  cursor ← name_of c
  Some (Plain (instr.Status to cursor))
status_of _ = None

-- Tokens that end in `else L`: those before it, and the label.
abbrev pub last_label : List Token → Option (List ℕ)
last_label (l ∷ []) = name_of l
last_label _ = None

abbrev pub else_at : List Token → ℕ → Option (List Token × List ℕ)
else_at ts k = do
  label ← last_label (drop (k + 1) ts)
  Some (take k ts, label)

abbrev pub else_of : List Token → Option (List Token × List ℕ)
else_of ts = position (is_word (codes "else")) ts >>= else_at ts

-- Before `else L`
abbrev pub open_of : List Token → List ℕ → Option Line
open_of (f ∷ m ∷ v ∷ []) label = do
  file ← name_of f
  mode ← mode_in m
  path ← operand_of v
  Some (Jumping (instr.OpenPath file mode path 0) label)
open_of _ label = None

abbrev pub readline_of : List Token → List ℕ → Option Line
readline_of (x ∷ f ∷ []) label = do
  to ← name_of x
  file ← name_of f
  Some (Jumping (instr.ReadLine to file 0) label)
readline_of _ label = None

abbrev pub remove_of : List Token → List ℕ → Option Line
remove_of (v ∷ []) label = do
  path ← operand_of v
  Some (Jumping (instr.Remove path 0) label)
remove_of _ label = None

abbrev pub spawn_of : List Token → List ℕ → Option Line
spawn_of (p ∷ v ∷ ts) label = do
  child ← name_of p
  path ← operand_of v
  arguments ← operands_of ts
  Some (Jumping (instr.Spawn child path arguments 0) label)
spawn_of _ label = None

abbrev pub fetch_of : List Token → List ℕ → Option Line
fetch_of [] label = None
fetch_of (c ∷ ts) label = do
  cursor ← name_of c
  to ← names_from_one ts
  Some (Jumping (instr.Fetch cursor to 0) label)

abbrev pub with_else : (List Token → List ℕ → Option Line) → List Token → Option Line
with_else form ts = else_of ts >>= λ e. form e.0 e.1

abbrev pub instruction_of : Keyword → List Token → Option Line
instruction_of Let = let_of
instruction_of Cut = cut_of
instruction_of Goto = goto_of
instruction_of If = if_of
instruction_of Print = print_of
instruction_of Exit = exit_of
instruction_of Open = with_else open_of
instruction_of ReadLine = with_else readline_of
instruction_of Write = write_of
instruction_of Copy = copy_of
instruction_of Close = close_of
instruction_of Remove = with_else remove_of
instruction_of Exists = exists_of
instruction_of Spawn = with_else spawn_of
instruction_of Wait = wait_of
instruction_of Sql = sql_of
instruction_of Fetch = with_else fetch_of
instruction_of Count = count_of
instruction_of Status = status_of
