-- The constants of scripts and of statements are good values.
use Rattle.std.specs.Prelude.{◌≡◌, ℕ, ◌≤◌, List, length, Some}
use Rattle.std.specs.List.{AllByRecursion}
use Rattle.std.specs.Str.{IsUtf8}
use Rattle.ldv_value.specs.Limits.{text_limit, max_operands, max_params}
use Rattle.script_parse.specs.declared.script.Instr.{Instr}
use Rattle.script_parse.specs.declared.script.Instr.TheVariants as instr
use Rattle.script_parse.specs.declared.script.Operand.{Operand}
use Rattle.script_parse.specs.declared.script.Operand.TheVariants.{Constant, Variable}
use Rattle.script_parse.specs.Script.{script_of}
use Rattle.sql_model.specs.Texts.{statement_of}
use Rattle.sql_laws.specs.Types.{Value, Statement}
use Rattle.value_laws.specs.Values.{GoodValue, GoodValues, GoodStatement}

-- ---- scripts

-- a constant is good
abbrev pub GoodOperand : Operand → Type 0
GoodOperand (Constant v) = GoodValue v
GoodOperand (Variable x) = Unit {0}

abbrev pub GoodOperands : List Operand → Type 0
GoodOperands = AllByRecursion GoodOperand

-- each constant in it is good, and neither has a child more than max_operands arguments nor a statement more
-- than max_params parameters
abbrev pub GoodInstr : Instr → Type 0
GoodInstr (instr.Let x v) = GoodOperand v
GoodInstr (instr.Calc x op v w) = GoodOperand v × GoodOperand w
GoodInstr (instr.Glue x v w) = GoodOperand v × GoodOperand w
GoodInstr (instr.ToInt x v) = GoodOperand v
GoodInstr (instr.Cut x y v) = GoodOperand v
GoodInstr (instr.Jump place) = Unit {0}
GoodInstr (instr.JumpIf op v w place) = GoodOperand v × GoodOperand w
GoodInstr (instr.Print vs) = GoodOperands vs
GoodInstr (instr.Exit v) = GoodOperand v
GoodInstr (instr.OpenPath f mode v place) = GoodOperand v
GoodInstr (instr.ReadLine x f place) = Unit {0}
GoodInstr (instr.WriteLine f vs) = GoodOperands vs
GoodInstr (instr.CopyRest f g) = Unit {0}
GoodInstr (instr.Close f) = Unit {0}
GoodInstr (instr.Remove v place) = GoodOperand v
GoodInstr (instr.Exists x v) = GoodOperand v
GoodInstr (instr.Spawn p v vs place) = GoodOperand v × GoodOperands vs × (length vs ≤ max_operands)
GoodInstr (instr.Wait x p) = Unit {0}
GoodInstr (instr.Sql c v vs) = GoodOperand v × GoodOperands vs × (length vs ≤ max_params)
GoodInstr (instr.Fetch c xs place) = Unit {0}
GoodInstr (instr.Count x c) = Unit {0}
GoodInstr (instr.Status x c) = Unit {0}

abbrev pub GoodScript : List Instr → Type 0
GoodScript = AllByRecursion GoodInstr

-- the instructions that bytes spell are good
abbrev pub ScriptLiteralsLaw : Type 0
ScriptLiteralsLaw = (bytes : List ℕ) (script : List Instr) → script_of bytes ≡ Some script → GoodScript script

-- ---- statements

-- A text that isn't too long is a good statement with good parameters.
abbrev pub StatementLiteralsLaw : Type 0
StatementLiteralsLaw = (text : List ℕ) (params : List Value) (s : Statement)
    → statement_of text params ≡ Some s
    → IsUtf8 text → length text ≤ text_limit → GoodValues params → GoodStatement s
