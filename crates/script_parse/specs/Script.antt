-- A script as a function of its bytes: the lines, what each says, the places of labels.
use Rattle.std.specs.Prelude.{◌≡◌, ℕ, ◌+◌, ◌++◌, List, [], ◌∷◌, Bool, false, ◌==◌, if◌then◌else◌, Option}
use Rattle.std.specs.Prelude.{Some, None, is_some, option_to_list, Result, Ok, Err}
use Rattle.script_parse.specs.declared.script.Instr.{Instr}
use Rattle.script_parse.specs.declared.script.Instr.TheVariants as instr
use Rattle.script_parse.specs.declared.line.Line.{Line as Said}
use Rattle.script_parse.specs.declared.line.Line.TheVariants.{Blank, Label, Plain, Jumping}
use Rattle.script_parse.specs.declared.line.Entry.{Entry}
use Rattle.script_parse.specs.declared.line.Definition.{Definition}
use Rattle.script_parse.specs.declared.parse.ScriptStop.{ScriptStop}
use Rattle.script_parse.specs.declared.parse.ScriptStop.TheVariants.{Line, NoMemory}
use Rattle.ldv_value.specs.Options.{only_if, ◌>>=◌}
use Rattle.script_parse.specs.Lines.{lines_of, line_of}
use Rattle.script_parse.specs.Names.{is_text}

-- a line with its number; none where it is empty or a comment
abbrev pub entry_of : ℕ → Option Said → List Entry
entry_of n None = record { number = n; line = None } ∷ []
entry_of n (Some Blank) = []
entry_of n (Some (Label l)) = record { number = n; line = Some (Label l) } ∷ []
entry_of n (Some (Plain i)) = record { number = n; line = Some (Plain i) } ∷ []
entry_of n (Some (Jumping i l)) = record { number = n; line = Some (Jumping i l) } ∷ []

-- the lines from the number n on that are neither empty nor a comment
abbrev pub entries_from : ℕ → List (List ℕ) → List Entry
entries_from n [] = []
entries_from n (line ∷ lines) = entry_of n (line_of line) ++ entries_from (n + 1) lines

abbrev pub entries_of : List ℕ → List Entry
entries_of bytes = entries_from 1 (lines_of bytes)

-- A definition of a label
pub record LabelDefinition : Type 0 where
  pub name : List ℕ
  pub definition : Definition

-- the label that a line defines, with n instructions before it
abbrev pub labels_in : ℕ → ℕ → Option Said → List LabelDefinition
labels_in number n None = []
labels_in number n (Some Blank) = []
labels_in number n (Some (Label l)) = record { name = l; definition = record { line = number; place = n } }
    ∷ []
labels_in number n (Some (Plain i)) = []
labels_in number n (Some (Jumping i l)) = []

abbrev pub instructions_in : Option Said → ℕ
instructions_in None = 0
instructions_in (Some Blank) = 0
instructions_in (Some (Label l)) = 0
instructions_in (Some (Plain i)) = 1
instructions_in (Some (Jumping i l)) = 1

-- the labels that lines define, with n instructions before them
abbrev pub labels_from : ℕ → List Entry → List LabelDefinition
labels_from n [] = []
labels_from n (e ∷ es) = labels_in e.number n e.line ++ labels_from (n + instructions_in e.line) es

-- the first definition of a name
abbrev pub definition_of : List LabelDefinition → List ℕ → Option Definition
definition_of [] name = None
definition_of (l ∷ ls) name = if is_text l.name name then Some l.definition else definition_of ls name

-- an instruction with the place of its label
abbrev pub with_place : ℕ → Instr → Instr
with_place p (instr.Jump q) = instr.Jump p
with_place p (instr.JumpIf op v w q) = instr.JumpIf op v w p
with_place p (instr.OpenPath f m v q) = instr.OpenPath f m v p
with_place p (instr.ReadLine x f q) = instr.ReadLine x f p
with_place p (instr.Remove v q) = instr.Remove v p
with_place p (instr.Spawn c v vs q) = instr.Spawn c v vs p
with_place p (instr.Fetch c xs q) = instr.Fetch c xs p
with_place p (instr.Let x v) = instr.Let x v
with_place p (instr.Calc x o v w) = instr.Calc x o v w
with_place p (instr.Glue x v w) = instr.Glue x v w
with_place p (instr.ToInt x v) = instr.ToInt x v
with_place p (instr.Cut x y v) = instr.Cut x y v
with_place p (instr.Print vs) = instr.Print vs
with_place p (instr.Exit v) = instr.Exit v
with_place p (instr.WriteLine f vs) = instr.WriteLine f vs
with_place p (instr.CopyRest f g) = instr.CopyRest f g
with_place p (instr.Close f) = instr.Close f
with_place p (instr.Exists x v) = instr.Exists x v
with_place p (instr.Wait x c) = instr.Wait x c
with_place p (instr.Sql c v vs) = instr.Sql c v vs
with_place p (instr.Count x c) = instr.Count x c
with_place p (instr.Status x c) = instr.Status x c

abbrev pub is_first : ℕ → Option Definition → Bool
is_first number None = false
is_first number (Some d) = d.line == number

-- The instruction of a line, or none where it defines a label; `None` where the line is bad: it is bad in
-- itself, an earlier line defines its label, or no line defines the label that it uses.
abbrev pub resolve_line : (List ℕ → Option Definition) → ℕ → Option Said → Option (Option Instr)
resolve_line look number None = None
resolve_line look number (Some Blank) = Some None
resolve_line look number (Some (Label l)) = only_if (is_first number (look l)) (Some None)
resolve_line look number (Some (Plain i)) = Some (Some i)
resolve_line look number (Some (Jumping i l)) = look l >>= λ d. Some (Some (with_place d.place i))

abbrev pub resolve : (List ℕ → Option Definition) → Entry → Option (Option Instr)
resolve look e = resolve_line look e.number e.line

-- the instructions of lines, where none is bad
abbrev pub instructions_of : (List ℕ → Option Definition) → List Entry → Option (List Instr)
instructions_of look [] = Some []
instructions_of look (e ∷ es) = resolve look e >>= λ i. instructions_of look es >>= λ is.
    Some (option_to_list i ++ is)

-- the number of the first bad line, where there is one
abbrev pub first_unresolved_line : (List ℕ → Option Definition) → List Entry → ℕ
first_unresolved_line look [] = 0
first_unresolved_line look (e ∷ es) = if is_some (resolve look e)
    then first_unresolved_line look es else e.number

abbrev pub look_up : List Entry → List ℕ → Option Definition
look_up es = definition_of (labels_from 0 es)

-- the instructions that the bytes spell, where they are a script
abbrev pub script_of : List ℕ → Option (List Instr)
script_of bytes = instructions_of (look_up (entries_of bytes)) (entries_of bytes)

-- the first bad line, from 1, where they aren't
abbrev pub first_bad_line : List ℕ → ℕ
first_bad_line bytes = first_unresolved_line (look_up (entries_of bytes)) (entries_of bytes)

-- a fact for the number of the first bad line
abbrev pub IfLine : ScriptStop → (ℕ → Type 0) → Type 0
IfLine (Line n) P = P n
IfLine NoMemory P = Unit {0}

-- the result is the list that is due, or the line that is bad where none is
abbrev pub Answers : Result (List Instr) ScriptStop → Option (List Instr) → ℕ → Type 0
Answers (Ok is) due bad = due ≡ Some is
Answers (Err stop) due bad = IfLine stop (λ n. (due ≡ None) × (n ≡ bad))
