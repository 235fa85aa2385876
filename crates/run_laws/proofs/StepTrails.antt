-- Facts about its process that every step of an instruction keeps: its name, its statements and, except for
-- `spawn`, the number of its children.
use Rattle.std.proofs.Common.{◌≡◌, ℕ, ◌+◌, List, [], ◌∷◌, length, refl, Bool, true, false, inl, inr}
use Rattle.std.specs.Prelude.{Option, Some, None, ◌==◌, nat_lt}
use Rattle.std.proofs.lemmas.Bool.{cases_Bool}
use Rattle.ldv_value.specs.FileState.{FileState, is_there, FileRefusal, open_refusal, has_room, rest_at, read_line}
use Rattle.ldv_value.specs.Limits.{printed_limit}
use Rattle.ldv_value.specs.declared.line.LineRead.{LineRead}
use Rattle.ldv_value.specs.declared.line.LineRead.TheVariants as lines
use Rattle.run_model.specs.Types.{Value, Null, Int, Text, OpenMode}
use Rattle.run_model.specs.declared.package.Entry.{Entry}
use Rattle.run_model.specs.Core.{OpenFile, Cursor, Process}
use Rattle.run_model.specs.StepBase.{with_variable, Computation, Yields, Misused, assign}
use Rattle.run_model.specs.StepFiles.{open_unless, open_path, take_line, read_next, write_where, write_text, copy_where, copy_between, close_file, remove_found, remove_path, test_path}
use Rattle.run_model.specs.StepReplies.{with_values, one_more, next_row, fetch_row, fetch_from}
use Rattle.run_model.specs.StepVariables.{cut_values, jump_where, print_line}

pub record Trail : Type 0 where
  pub name : List ℕ
  pub entries : List Entry
  pub spawned : ℕ

abbrev pub trail : Process → Trail
trail p = record { name = p.name; entries = p.entries; spawned = p.spawned }

-- ---- steps of their own process alone

pub trail_assign : (name : List ℕ) (c : Computation) (p : Process) → trail (assign name c p) ≡ trail p
trail_assign name (Yields v) p = refl
trail_assign name (Misused status) p = refl

pub trail_cut : (before after : List ℕ) (by text : Value) (p : Process)
    → trail (cut_values before after by text p) ≡ trail p
trail_cut before after Null text p = refl
trail_cut before after (Int n) text p = refl
trail_cut before after (Text []) text p = refl
trail_cut before after (Text (b ∷ bs)) Null p = refl
trail_cut before after (Text (b ∷ bs)) (Int n) p = refl
trail_cut before after (Text (b ∷ bs)) (Text text) p = refl

pub trail_jump : (goes : Bool) (place : ℕ) (p : Process) → trail (jump_where goes place p) ≡ trail p
trail_jump true place p = refl
trail_jump false place p = refl

pub trail_line : (text : List ℕ) (p : Process) → trail (print_line text p) ≡ trail p
trail_line text p = elim (cases_Bool (nat_lt printed_limit (length p.printed + length text))) [
  | inl over ↦ rw over refl
  | inr fits ↦ rw fits refl
]

trail_values : (names : List (List ℕ)) (values : List Value) (p : Process)
    → trail (with_values names values p) ≡ trail p
trail_values [] values p = refl
trail_values (name ∷ names) [] p = refl
trail_values (name ∷ names) (v ∷ values) p = trail_values names values (with_variable name v p)

trail_row : (o : Option (List Value)) (cursor : Cursor) (name : List ℕ) (to : List (List ℕ)) (place : ℕ) (p : Process)
    → trail (fetch_row o cursor name to place p) ≡ trail p
trail_row None cursor name to place p = refl
trail_row (Some row) cursor name to place p = elim (cases_Bool (length row == length to)) [
  | inl fits ↦ rw fits (trail_values to row (one_more name cursor p))
  | inr differs ↦ rw differs refl
]

pub trail_fetch : (o : Option Cursor) (name : List ℕ) (to : List (List ℕ)) (place : ℕ) (p : Process)
    → trail (fetch_from o name to place p) ≡ trail p
trail_fetch None name to place p = refl
trail_fetch (Some cursor) name to place p = trail_row (next_row cursor) cursor name to place p

pub trail_close : (o : Option OpenFile) (name : List ℕ) (p : Process) → trail (close_file o name p) ≡ trail p
trail_close None name p = refl
trail_close (Some file) name p = refl

-- ---- steps that look at the files

trail_unless : (o : Option FileRefusal) (found : Bool) (name : List ℕ) (mode : OpenMode) (path : List ℕ) (place : ℕ)
    (p : Process) (s : FileState) → trail (open_unless o found name mode path place p s).process ≡ trail p
trail_unless None found name mode path place p s = refl
trail_unless (Some refusal) found name mode path place p s = refl

pub trail_open : (name : List ℕ) (mode : OpenMode) (o : Option (List ℕ)) (place : ℕ) (p : Process) (s : FileState)
    → trail (open_path name mode o place p s).process ≡ trail p
trail_open name mode None place p s = refl
trail_open name mode (Some path) place p s =
    trail_unless (open_refusal mode (is_there s path)) (is_there s path) name mode path place p s

trail_take : (r : LineRead) (to name : List ℕ) (file : OpenFile) (place : ℕ) (p : Process)
    → trail (take_line r to name file place p) ≡ trail p
trail_take lines.End to name file place p = refl
trail_take (lines.Line line next) to name file place p = refl
trail_take lines.TooLong to name file place p = refl
trail_take lines.NotText to name file place p = refl

pub trail_read : (o : Option OpenFile) (to name : List ℕ) (place : ℕ) (p : Process) (s : FileState)
    → trail (read_next o to name place p s).process ≡ trail p
trail_read None to name place p s = refl
trail_read (Some file) to name place p s = trail_take (read_line s file.path file.place) to name file place p

trail_write_where : (fits : Bool) (file : OpenFile) (text : List ℕ) (p : Process) (s : FileState)
    → trail (write_where fits file text p s).process ≡ trail p
trail_write_where false file text p s = refl
trail_write_where true file text p s = refl

pub trail_write : (o : Option OpenFile) (text : List ℕ) (p : Process) (s : FileState)
    → trail (write_text o text p s).process ≡ trail p
trail_write None text p s = refl
trail_write (Some file) text p s = trail_write_where (has_room s file.path (length text)) file text p s

trail_copy_where : (fits : Bool) (name : List ℕ) (source target : OpenFile) (p : Process) (s : FileState)
    → trail (copy_where fits name source target p s).process ≡ trail p
trail_copy_where false name source target p s = refl
trail_copy_where true name source target p s = refl

pub trail_copy : (name : List ℕ) (o r : Option OpenFile) (p : Process) (s : FileState)
    → trail (copy_between name o r p s).process ≡ trail p
trail_copy name None r p s = refl
trail_copy name (Some source) None p s = refl
trail_copy name (Some source) (Some target) p s =
    trail_copy_where (has_room s target.path (length (rest_at s source.path source.place))) name source target p s

trail_found : (found : Bool) (path : List ℕ) (place : ℕ) (p : Process) (s : FileState)
    → trail (remove_found found path place p s).process ≡ trail p
trail_found false path place p s = refl
trail_found true path place p s = refl

pub trail_remove : (o : Option (List ℕ)) (place : ℕ) (p : Process) (s : FileState)
    → trail (remove_path o place p s).process ≡ trail p
trail_remove None place p s = refl
trail_remove (Some path) place p s = trail_found (is_there s path) path place p s

pub trail_test : (to : List ℕ) (o : Option (List ℕ)) (p : Process) (s : FileState)
    → trail (test_path to o p s).process ≡ trail p
trail_test to None p s = refl
trail_test to (Some path) p s = refl
