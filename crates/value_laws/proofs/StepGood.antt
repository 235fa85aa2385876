-- Facts about its process that every step of an instruction keeps: good variables, good replies under its
-- cursors, a good script, and a status that is none or a byte.
use Rattle.std.proofs.Common.{◌≡◌, ℕ, zero, suc, ◌+◌, ◌<◌, ◌≤◌, List, [], ◌∷◌, length, refl, sym, subst, Bool, true, false, arith, inl, inr}
use Rattle.std.specs.Prelude.{pos, Option, Some, None, not, slice_get, ◌==◌, nat_lt}
use Rattle.std.specs.List.{list_all, AllByRecursion}
use Rattle.std.proofs.lemmas.Bool.{cases_Bool}
use Rattle.ldv_value.specs.FileState.{FileState, is_there, FileRefusal, open_refusal, has_room, rest_at, read_line}
use Rattle.ldv_value.specs.Limits.{printed_limit}
use Rattle.ldv_value.specs.declared.line.LineRead.{LineRead}
use Rattle.ldv_value.specs.declared.line.LineRead.TheVariants as lines
use Rattle.ldv_value.proofs.Booleans.{and-parts}
use Rattle.run_model.specs.Types.{Value, Null, Int, Text, Operand, Constant, Variable, OpenMode, Reply, Rows, Changed, Refused}
use Rattle.run_model.specs.Core.{NameBinding, is_bound, lookup, bind, unbind, OpenFile, Cursor, Process, arguments_from, argument_variables}
use Rattle.run_model.specs.StepBase.{operand_value, operand_values, with_exit_status, went_on, went_to, with_variable, Computation, Yields, Misused, assign}
use Rattle.run_model.specs.StepFiles.{open_unless, open_path, take_line, read_next, write_where, write_text, copy_where, copy_between, close_file, remove_found, remove_path, number_of_test, test_path}
use Rattle.run_model.specs.StepReplies.{rows_in, with_values, one_more, next_row, fetch_row, fetch_from}
use Rattle.run_model.specs.StepVariables.{cut_values, jump_where, print_line, first_place}
use Rattle.run_model.specs.TypedPackage.{TypedValues}
use Rattle.sql_model.specs.Meaning.{or_null}
use Rattle.sql_model.specs.Tables.{is_short}
use Rattle.run_model.proofs.StepKeeps.{IsStatus}
use Rattle.ldv_value.proofs.ItemLists.{all_filter}
use Rattle.value_laws.specs.Literals.{GoodOperand, GoodOperands, GoodScript}
use Rattle.value_laws.specs.Values.{GoodValue, GoodValues, GoodReply}
use Rattle.value_laws.proofs.StepValues.{small_good, GoodComputed, GoodLine, read_good}
use Rattle.value_laws.proofs.TextParts.{GoodCut, cut_good}
use Rattle.value_laws.proofs.GoodMeaning.{null_good}

-- ---- names that mean something good

module _ {X : Type 0} (P : X → Type 0) where
  abbrev pub Bound : List (NameBinding X) → Type 0
  Bound = AllByRecursion (λ b. P b.bound)

  pub unbound : (name : List ℕ) (bs : List (NameBinding X)) → Bound bs → Bound (unbind name bs)
  unbound name bs all = all_filter (λ (b : NameBinding X). P b.bound) (λ b. not (is_bound name b)) bs all

  pub bound : (name : List ℕ) (x : X) (bs : List (NameBinding X)) → P x → Bound bs → Bound (bind name x bs)
  bound name x bs here all = (here, unbound name bs all)

  pub looked_up : (name : List ℕ) (bs : List (NameBinding X)) (x : X) → Bound bs → lookup name bs ≡ Some x → P x
  looked_up name [] x all is = absurd cc
  looked_up name (b ∷ bs) x all is = elim (cases_Bool (is_bound name b)) [
    | inl hit ↦
        let found : Some b.bound ≡ Some x = rw hit at is in
        let same : b.bound ≡ x = cc in
        subst P same all.0
    | inr miss ↦ looked_up name bs x all.1 (rw miss at is)
  ]

abbrev pub GoodVariables : List (NameBinding Value) → Type 0
GoodVariables = Bound GoodValue

abbrev pub GoodCursor : Cursor → Type 0
GoodCursor cursor = GoodReply cursor.reply

pub record GoodParts (p : Process) : Type 0 where
  pub variables : GoodVariables p.variables
  pub cursors : Bound GoodCursor p.cursors
  pub script : GoodScript p.script
  pub status : IsStatus p.status

-- ---- operands

null_or_good : (o : Option Value) → ((v : Value) → o ≡ Some v → GoodValue v) → GoodValue (or_null o)
null_or_good None good = null_good
null_or_good (Some v) good = good v refl

pub operand_good : (p : Process) (o : Operand) → GoodParts p → GoodOperand o → GoodValue (operand_value p o)
operand_good p (Constant v) good constant = constant
operand_good p (Variable name) good constant =
    null_or_good (lookup name p.variables) (λ v is. looked_up GoodValue name p.variables v good.variables is)

pub operands_good : (p : Process) (os : List Operand) → GoodParts p → GoodOperands os → GoodValues (operand_values p os)
operands_good p [] good constants = tt
operands_good p (o ∷ os) good constants = (operand_good p o good constants.0, operands_good p os good constants.1)

-- ---- what becomes of a process

pub end_good : (status : ℕ) (p : Process) → status < 256 → GoodParts p → GoodParts (with_exit_status status p)
end_good status p byte good =
    record { variables = good.variables; cursors = good.cursors; script = good.script; status = byte }

pub place_good : (place : ℕ) (p : Process) → GoodParts p → GoodParts (went_to place p)
place_good place p good =
    record { variables = good.variables; cursors = good.cursors; script = good.script; status = good.status }

pub on_good : (p : Process) → GoodParts p → GoodParts (went_on p)
on_good p good = place_good (p.place + 1) p good

pub variable_good : (name : List ℕ) (v : Value) (p : Process) → GoodValue v → GoodParts p
    → GoodParts (with_variable name v p)
variable_good name v p here good = record {
  variables = bound GoodValue name v p.variables here good.variables;
  cursors = good.cursors;
  script = good.script;
  status = good.status;
}

pub assign_good : (name : List ℕ) (c : Computation) (p : Process) → GoodComputed c → GoodParts p
    → GoodParts (assign name c p)
assign_good name (Yields v) p here good = on_good (with_variable name v p) (variable_good name v p here good)
assign_good name (Misused status) p byte good = end_good status p byte good

-- a process with the same variables, cursors, script and status
pub same_good : (p q : Process) → q.variables ≡ p.variables → q.cursors ≡ p.cursors → q.script ≡ p.script
    → q.status ≡ p.status → GoodParts p → GoodParts q
same_good p q variables cursors script status good = record {
  variables = subst GoodVariables (sym variables) good.variables;
  cursors = subst (Bound GoodCursor) (sym cursors) good.cursors;
  script = subst GoodScript (sym script) good.script;
  status = subst IsStatus (sym status) good.status;
}

-- ---- steps of their own process alone

pub good_cut : (before after : List ℕ) (by text : Value) (p : Process) → GoodValue by → GoodValue text → GoodParts p
    → GoodParts (cut_values before after by text p)
good_cut before after Null text p first second good = end_good 240 p (omega arith) good
good_cut before after (Int n) text p first second good = end_good 240 p (omega arith) good
good_cut before after (Text []) text p first second good = end_good 240 p (omega arith) good
good_cut before after (Text (b ∷ bs)) Null p first second good = end_good 240 p (omega arith) good
good_cut before after (Text (b ∷ bs)) (Int n) p first second good = end_good 240 p (omega arith) good
good_cut before after (Text (b ∷ bs)) (Text text) p first second good =
    let cut : GoodCut (b ∷ bs) text (first_place 0 (b ∷ bs) text) = cut_good b bs text first second in
    on_good _ (variable_good after _ _ cut.after (variable_good before _ p cut.before good))

pub good_jump : (goes : Bool) (place : ℕ) (p : Process) → GoodParts p → GoodParts (jump_where goes place p)
good_jump true place p good = place_good place p good
good_jump false place p good = on_good p good

pub good_line : (text : List ℕ) (p : Process) → GoodParts p → GoodParts (print_line text p)
good_line text p good = elim (cases_Bool (nat_lt printed_limit (length p.printed + length text))) [
  | inl over ↦ rw over (end_good 242 p (omega arith) good)
  | inr fits ↦ rw fits (same_good p _ refl refl refl refl good)
]

-- the values of a row
pub row_good : (row : List Value) → TypedValues row → list_all is_short row ≡ true → GoodValues row
row_good [] typed short = tt
row_good (v ∷ vs) typed short =
    let both = and-parts (is_short v) (list_all is_short vs) short in
    ((typed.0, both.0), row_good vs typed.1 both.1)

rows_good : (rows : List (List Value)) (k : ℕ) (row : List Value) → AllByRecursion TypedValues rows
    → list_all (list_all is_short) rows ≡ true → slice_get rows k ≡ Some row → GoodValues row
rows_good [] zero row typed short is = absurd cc
rows_good [] (suc k) row typed short is = absurd cc
rows_good (r ∷ rows) zero row typed short is =
    let same : r ≡ row = cc in
    subst GoodValues same (row_good r typed.0 (and-parts (list_all is_short r) (list_all (list_all is_short) rows) short).0)
rows_good (r ∷ rows) (suc k) row typed short is =
    rows_good rows k row typed.1 (and-parts (list_all is_short r) (list_all (list_all is_short) rows) short).1 is

reply_row : (reply : Reply) (k : ℕ) (row : List Value) → GoodReply reply → slice_get (rows_in reply) k ≡ Some row
    → GoodValues row
reply_row (Rows rows) k row good is = rows_good rows k row good.typed good.ruled is
reply_row (Changed n) zero row good is = absurd cc
reply_row (Changed n) (suc k) row good is = absurd cc
reply_row (Refused refusal) zero row good is = absurd cc
reply_row (Refused refusal) (suc k) row good is = absurd cc

good_values : (names : List (List ℕ)) (values : List Value) (p : Process) → GoodValues values → GoodParts p
    → GoodParts (with_values names values p)
good_values [] values p here good = good
good_values (name ∷ names) [] p here good = good
good_values (name ∷ names) (v ∷ values) p here good =
    good_values names values (with_variable name v p) here.1 (variable_good name v p here.0 good)

cursor_good : (name : List ℕ) (cursor : Cursor) (p : Process) → GoodCursor cursor → GoodParts p
    → GoodParts (one_more name cursor p)
cursor_good name cursor p here good = record {
  variables = good.variables;
  cursors = bound GoodCursor name (record cursor { fetched = cursor.fetched + 1 }) p.cursors here good.cursors;
  script = good.script;
  status = good.status;
}

good_row : (o : Option (List Value)) (cursor : Cursor) (name : List ℕ) (to : List (List ℕ)) (place : ℕ) (p : Process)
    → ((row : List Value) → o ≡ Some row → GoodValues row) → GoodCursor cursor → GoodParts p
    → GoodParts (fetch_row o cursor name to place p)
good_row None cursor name to place p row here good = place_good place p good
good_row (Some values) cursor name to place p row here good = elim (cases_Bool (length values == length to)) [
  | inl fits ↦
      rw fits
      (on_good _ (good_values to values (one_more name cursor p) (row values refl) (cursor_good name cursor p here good)))
  | inr differs ↦ rw differs (end_good 240 p (omega arith) good)
]

from_cursor : (o : Option Cursor) (name : List ℕ) (to : List (List ℕ)) (place : ℕ) (p : Process)
    → ((cursor : Cursor) → o ≡ Some cursor → GoodCursor cursor) → GoodParts p
    → GoodParts (fetch_from o name to place p)
from_cursor None name to place p here good = end_good 240 p (omega arith) good
from_cursor (Some cursor) name to place p here good =
    good_row (next_row cursor) cursor name to place p
    (λ row is. reply_row cursor.reply cursor.fetched row (here cursor refl) is) (here cursor refl) good

pub good_fetch : (name : List ℕ) (to : List (List ℕ)) (place : ℕ) (p : Process) → GoodParts p
    → GoodParts (fetch_from (lookup name p.cursors) name to place p)
good_fetch name to place p good =
    from_cursor (lookup name p.cursors) name to place p
    (λ cursor is. looked_up GoodCursor name p.cursors cursor good.cursors is) good

pub good_close : (o : Option OpenFile) (name : List ℕ) (p : Process) → GoodParts p → GoodParts (close_file o name p)
good_close None name p good = end_good 240 p (omega arith) good
good_close (Some file) name p good = same_good p _ refl refl refl refl good

-- ---- steps that look at the files

good_unless : (o : Option FileRefusal) (found : Bool) (name : List ℕ) (mode : OpenMode) (path : List ℕ) (place : ℕ)
    (p : Process) (s : FileState) → GoodParts p → GoodParts (open_unless o found name mode path place p s).process
good_unless None found name mode path place p s good = same_good p _ refl refl refl refl good
good_unless (Some refusal) found name mode path place p s good = place_good place p good

pub good_open : (name : List ℕ) (mode : OpenMode) (o : Option (List ℕ)) (place : ℕ) (p : Process) (s : FileState)
    → GoodParts p → GoodParts (open_path name mode o place p s).process
good_open name mode None place p s good = end_good 243 p (omega arith) good
good_open name mode (Some path) place p s good =
    good_unless (open_refusal mode (is_there s path)) (is_there s path) name mode path place p s good

good_take : (r : LineRead) (to name : List ℕ) (file : OpenFile) (place : ℕ) (p : Process) → GoodLine r → GoodParts p
    → GoodParts (take_line r to name file place p)
good_take lines.End to name file place p line good = place_good place p good
good_take (lines.Line text next) to name file place p line good =
    on_good _ (variable_good to (Text text) _ line (same_good p _ refl refl refl refl good))
good_take lines.TooLong to name file place p line good = end_good 242 p (omega arith) good
good_take lines.NotText to name file place p line good = end_good 244 p (omega arith) good

pub good_read : (o : Option OpenFile) (to name : List ℕ) (place : ℕ) (p : Process) (s : FileState) → GoodParts p
    → GoodParts (read_next o to name place p s).process
good_read None to name place p s good = end_good 240 p (omega arith) good
good_read (Some file) to name place p s good =
    good_take (read_line s file.path file.place) to name file place p (read_good s file.path file.place) good

good_write_where : (fits : Bool) (file : OpenFile) (text : List ℕ) (p : Process) (s : FileState) → GoodParts p
    → GoodParts (write_where fits file text p s).process
good_write_where false file text p s good = end_good 242 p (omega arith) good
good_write_where true file text p s good = on_good p good

pub good_write : (o : Option OpenFile) (text : List ℕ) (p : Process) (s : FileState) → GoodParts p
    → GoodParts (write_text o text p s).process
good_write None text p s good = end_good 240 p (omega arith) good
good_write (Some file) text p s good = good_write_where (has_room s file.path (length text)) file text p s good

good_copy_where : (fits : Bool) (name : List ℕ) (source target : OpenFile) (p : Process) (s : FileState)
    → GoodParts p → GoodParts (copy_where fits name source target p s).process
good_copy_where false name source target p s good = end_good 242 p (omega arith) good
good_copy_where true name source target p s good = same_good p _ refl refl refl refl good

pub good_copy : (name : List ℕ) (o r : Option OpenFile) (p : Process) (s : FileState) → GoodParts p
    → GoodParts (copy_between name o r p s).process
good_copy name None r p s good = end_good 240 p (omega arith) good
good_copy name (Some source) None p s good = end_good 240 p (omega arith) good
good_copy name (Some source) (Some target) p s good =
    good_copy_where (has_room s target.path (length (rest_at s source.path source.place))) name source target p s good

good_found : (found : Bool) (path : List ℕ) (place : ℕ) (p : Process) (s : FileState) → GoodParts p
    → GoodParts (remove_found found path place p s).process
good_found false path place p s good = place_good place p good
good_found true path place p s good = on_good p good

pub good_remove : (o : Option (List ℕ)) (place : ℕ) (p : Process) (s : FileState) → GoodParts p
    → GoodParts (remove_path o place p s).process
good_remove None place p s good = end_good 243 p (omega arith) good
good_remove (Some path) place p s good = good_found (is_there s path) path place p s good

bit_good : (found : Bool) → GoodValue (Int (pos (number_of_test found)))
bit_good true = small_good 1 (omega arith)
bit_good false = small_good 0 (omega arith)

pub good_test : (to : List ℕ) (o : Option (List ℕ)) (p : Process) (s : FileState) → GoodParts p
    → GoodParts (test_path to o p s).process
good_test to None p s good = end_good 243 p (omega arith) good
good_test to (Some path) p s good =
    on_good _ (variable_good to (Int (pos (number_of_test (is_there s path)))) p (bit_good (is_there s path)) good)

-- ---- the variables that a process begins with

from_good : (n : ℕ) (vs : List Value) → GoodValues vs → GoodVariables (arguments_from n vs)
from_good n [] good = tt
from_good n (v ∷ vs) good = (good.0, from_good (n + 1) vs good.1)

pub arguments_good : (vs : List Value) → GoodValues vs → length vs ≤ 255 → GoodVariables (argument_variables vs)
arguments_good vs good few = (small_good (length vs) (omega (arith, few)), from_good 1 vs good)
