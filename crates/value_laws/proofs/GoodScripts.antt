-- The instructions of a script are good.
use Rattle.std.proofs.Common.{◌≡◌, ℕ, List, [], ◌∷◌, map, refl, sym, subst, Some, None}
use Rattle.std.specs.Prelude.{Option}
use Rattle.std.specs.List.{AllByRecursion, AllZip}
use Rattle.ldv_value.specs.declared.value.Value.TheVariants as value
use Rattle.ldv_value.proofs.Lists.{all-weaker}
use Rattle.script_parse.specs.declared.script.Instr.{Instr}
use Rattle.script_parse.specs.declared.script.Instr.TheVariants as instr
use Rattle.script_parse.specs.declared.script.Operand.{Operand}
use Rattle.script_parse.specs.declared.script.Operand.TheVariants.{Constant, Variable}
use Rattle.script_parse.specs.declared.token.Token.{Token}
use Rattle.script_parse.specs.declared.token.Token.TheVariants.{Word}
use Rattle.script_parse.specs.Grammar.{Kind, Blank, Names, Does, word, operand_token, HasForm, tokens_for, place_of, IsAtPlace, IsLine, IsAt, IsScript, steps}
use Rattle.script_parse.specs.Script.{script_of}
use Rattle.script_parse.proofs.ScriptLaw.{script_sound}
use Rattle.ldv_value.proofs.ItemLists.{all_front, all_of_map}
use Rattle.value_laws.specs.Literals.{GoodOperand, GoodOperands, GoodInstr, GoodScript}
use Rattle.value_laws.proofs.ScriptTokens.{GoodPiece, GoodPieces, pieces_good}

-- ---- operands

operand_good : (v : Operand) → GoodPiece (operand_token v) → GoodOperand v
operand_good (Constant value.Null) good = (tt, refl)
operand_good (Constant (value.Int z)) good = good
operand_good (Constant (value.Text text)) good = good
operand_good (Variable x) good = tt

operands_good : (vs : List Operand) → GoodPieces (map operand_token vs) → GoodOperands vs
operands_good vs good = all-weaker (λ v. GoodPiece (operand_token v)) GoodOperand operand_good vs (all_of_map GoodPiece operand_token vs good)

-- ---- instructions

instr_good : (i : Instr) (l : List ℕ) → HasForm i → GoodPieces (tokens_for i l) → GoodInstr i
instr_good (instr.Let x v) l form good = operand_good v good.1.1.1.0
instr_good (instr.Calc x op v w) l form good = (operand_good v good.1.1.1.0, operand_good w good.1.1.1.1.1.0)
instr_good (instr.Glue x v w) l form good = (operand_good v good.1.1.1.0, operand_good w good.1.1.1.1.1.0)
instr_good (instr.ToInt x v) l form good = operand_good v good.1.1.1.1.0
instr_good (instr.Cut x y v) l form good = operand_good v good.1.1.1.0
instr_good (instr.Jump place) l form good = tt
instr_good (instr.JumpIf op v w place) l form good = (operand_good v good.1.0, operand_good w good.1.1.1.0)
instr_good (instr.Print vs) l form good = operands_good vs good.1
instr_good (instr.Exit v) l form good = operand_good v good.1.0
instr_good (instr.OpenPath f mode v place) l form good = operand_good v good.1.1.1.0
instr_good (instr.ReadLine x f place) l form good = tt
instr_good (instr.WriteLine f vs) l form good = operands_good vs good.1.1
instr_good (instr.CopyRest f g) l form good = tt
instr_good (instr.Close f) l form good = tt
instr_good (instr.Remove v place) l form good = operand_good v good.1.0
instr_good (instr.Exists x v) l form good = operand_good v good.1.1.0
instr_good (instr.Spawn p v vs place) l form good =
    (operand_good v good.1.1.0, operands_good vs (all_front GoodPiece (map operand_token vs) (word "else" ∷ Word l ∷ []) good.1.1.1), form.2.0)
instr_good (instr.Wait x p) l form good = tt
instr_good (instr.Sql c v vs) l form good = (operand_good v good.1.1.0, operands_good vs good.1.1.1, form.2.0)
instr_good (instr.Fetch c xs place) l form good = tt
instr_good (instr.Count x c) l form good = tt
instr_good (instr.Status x c) l form good = tt

-- ---- lines

-- the tokens of a line are those of its instruction, with the label that it names
spelled : (At : List ℕ → ℕ → Type 0) (i : Instr) (ts : List Token) (o : Option ℕ) → IsAtPlace At i ts o
    → (l : List ℕ) × (ts ≡ tokens_for i l)
spelled At i ts None e = ([], e)
spelled At i ts (Some place) (l, named, at, e) = (l, e)

-- the instruction that a line is
abbrev GoodKind : Kind → Type 0
GoodKind Blank = Unit {0}
GoodKind (Names l) = Unit {0}
GoodKind (Does i) = GoodInstr i

line_good : (At : List ℕ → ℕ → Type 0) (line : List ℕ) (kind : Kind) → IsLine At line kind → GoodKind kind
line_good At line Blank is = tt
line_good At line (Names l) is = tt
line_good At line (Does i) (utf8, (ts, tokens, (form, at))) =
    let s = spelled At i ts (place_of i) at in
    let good : GoodPieces ts = pieces_good ts line utf8 tokens in
    instr_good i s.0 form (subst GoodPieces s.1 good)

lines_good : (At : List ℕ → ℕ → Type 0) (lines : List (List ℕ)) (kinds : List Kind) → AllZip (IsLine At) lines kinds
    → AllByRecursion GoodKind kinds
lines_good At [] [] are = tt
lines_good At [] (kind ∷ kinds) are = absurd are
lines_good At (line ∷ lines) [] are = absurd are
lines_good At (line ∷ lines) (kind ∷ kinds) are = (line_good At line kind are.0, lines_good At lines kinds are.1)

steps_good : (kinds : List Kind) → AllByRecursion GoodKind kinds → GoodScript (steps kinds)
steps_good [] good = tt
steps_good (Blank ∷ kinds) good = steps_good kinds good.1
steps_good (Names l ∷ kinds) good = steps_good kinds good.1
steps_good (Does i ∷ kinds) good = (good.0, steps_good kinds good.1)

spelled_good : (bytes : List ℕ) (script : List Instr) → IsScript bytes script → GoodScript script
spelled_good bytes script (lines, kinds, cut, are, differ, is) =
    subst GoodScript (sym is) (steps_good kinds (lines_good (IsAt kinds) lines kinds are))

-- what bytes spell is good
pub script_good : (bytes : List ℕ) (script : List Instr) → script_of bytes ≡ Some script → GoodScript script
script_good bytes script is = spelled_good bytes script (script_sound bytes script is)
