-- The steps of `open`, `readline`, `write`, `copy`, `close`, `remove` and `exists`. `FileState.antt` of
-- `ldv_value` says what each does to the files; this file says what it does to its process, and its acts.
--
-- An open file names its path, so it sees what any process writes there. A refused open or remove goes on at
-- the label and changes nothing else.
use Rattle.std.specs.Prelude.{ℕ, pos, List, [], ◌∷◌, length, Bool, true, false, ◌&&◌, if◌then◌else◌}
use Rattle.std.specs.Prelude.{Option, Some, None, option_and_then}
use Rattle.std.specs.Str.{is_utf8}
use Rattle.ldv_value.specs.FileState.{FileState, is_there, FileRefusal, open_refusal, after_open}
use Rattle.ldv_value.specs.FileState.{after_remove}
use Rattle.ldv_value.specs.FileState.{has_room, rest_at, after_append, after_copy, copy_end, read_line}
use Rattle.ldv_value.specs.Names.{path_test}
use Rattle.ldv_value.specs.declared.file.OpenMode.TheVariants as modes
use Rattle.ldv_value.specs.declared.line.LineRead.{LineRead}
use Rattle.ldv_value.specs.declared.line.LineRead.TheVariants as lines
use Rattle.run_model.specs.Types.{OpenMode, Value, Null, Int, Text, Operand, Act, OpenedRead, OpenedWrite}
use Rattle.run_model.specs.Types.{OpenedAppend, OpenedNew, Unopened, Read, Wrote, Removed, Tested}
use Rattle.run_model.specs.Core.{lookup, bind, unbind, OpenFile, Process}
use Rattle.run_model.specs.StepBase.{operand_value, operand_values, with_exit_status, went_on, went_to}
use Rattle.run_model.specs.StepBase.{with_variable}
use Rattle.run_model.specs.StepBase.{wrong_kind, too_long_status, bad_path, not_utf8, FileEffect}
use Rattle.run_model.specs.StepVariables.{printed_line}

-- ---- what they share

-- misuse before anything is done
abbrev pub misuse_effect : ℕ → Process → FileState → FileEffect
misuse_effect status p s = record { process = with_exit_status status p; files = s; acts = [] }

-- a path is a text by the rule for paths
abbrev pub path_in : Value → Option (List ℕ)
path_in Null = None
path_in (Int n) = None
path_in (Text t) = if path_test t && is_utf8 t then Some t else None

abbrev pub path_at : Operand → Process → Option (List ℕ)
path_at path p = path_in (operand_value p path)

abbrev pub allows_read : OpenMode → Bool
allows_read modes.Read = true
allows_read modes.Write = false
allows_read modes.Append = false
allows_read modes.New = false

abbrev pub allows_write : OpenMode → Bool
allows_write modes.Read = false
allows_write modes.Write = true
allows_write modes.Append = true
allows_write modes.New = true

abbrev pub if_allowed : (OpenMode → Bool) → OpenFile → Option OpenFile
if_allowed allows file = if allows file.mode then Some file else None

-- the open file that a name means, where its mode allows what is done
abbrev pub open_for : (OpenMode → Bool) → List ℕ → Process → Option OpenFile
open_for allows name p = option_and_then (if_allowed allows) (lookup name p.files)

-- a name means an open file at another place
abbrev pub at_place : List ℕ → OpenFile → ℕ → Process → Process
at_place name file place p = record p { files = bind name (record file { place = place }) p.files }

-- ---- `open f M v else L`: f means the path, the mode and place 0, in place of what it meant

abbrev pub open_act : OpenMode → List ℕ → Bool → Act
open_act modes.Read path found = OpenedRead path
open_act modes.Write path found = OpenedWrite path
open_act modes.Append path found = OpenedAppend path found
open_act modes.New path found = OpenedNew path

abbrev pub opened_file : List ℕ → OpenMode → OpenFile
opened_file path mode = record { path = path; mode = mode; place = 0 }

abbrev pub with_open : List ℕ → OpenFile → Process → Process
with_open name file p = record p { files = bind name file p.files }

-- `r` needs the file, and `n` needs that it is absent
abbrev pub open_unless : Option FileRefusal → Bool → List ℕ → OpenMode → List ℕ → ℕ → Process → FileState
    → FileEffect
open_unless (Some refusal) found name mode path place p s = record {
  process = went_to place p;
  files = s;
  acts = Unopened path found ∷ [];
}
open_unless None found name mode path place p s = record {
  process = went_on (with_open name (opened_file path mode) p);
  files = after_open mode s path;
  acts = open_act mode path found ∷ [];
}

abbrev pub open_found : Bool → List ℕ → OpenMode → List ℕ → ℕ → Process → FileState → FileEffect
open_found found name mode path place p s =
    open_unless (open_refusal mode found) found name mode path place p s

abbrev pub open_path : List ℕ → OpenMode → Option (List ℕ) → ℕ → Process → FileState → FileEffect
open_path name mode None place p s = misuse_effect bad_path p s
open_path name mode (Some path) place p s = open_found (is_there s path) name mode path place p s

-- ---- `readline x f else L`: x gets the next line of f, open for `r`, and the place moves behind it

-- by what was read
abbrev pub take_line : LineRead → List ℕ → List ℕ → OpenFile → ℕ → Process → Process
take_line lines.End to name file place p = went_to place p
take_line (lines.Line line next) to name file place p =
    went_on (with_variable to (Text line) (at_place name file next p))
take_line lines.TooLong to name file place p = with_exit_status too_long_status p
take_line lines.NotText to name file place p = with_exit_status not_utf8 p

-- it reads the file whatever that gives, misuse too
abbrev pub read_next : Option OpenFile → List ℕ → List ℕ → ℕ → Process → FileState → FileEffect
read_next None to name place p s = misuse_effect wrong_kind p s
read_next (Some file) to name place p s = record {
  process = take_line (read_line s file.path file.place) to name file place p;
  files = s;
  acts = Read file.path ∷ [];
}

-- ---- `write f v v*`: the shown values and LF are appended to f, open for `w`, `a` or `n`

abbrev pub write_where : Bool → OpenFile → List ℕ → Process → FileState → FileEffect
write_where false file text p s = misuse_effect too_long_status p s
write_where true file text p s = record {
  process = went_on p;
  files = after_append s file.path text;
  acts = Wrote file.path ∷ [];
}

abbrev pub write_text : Option OpenFile → List ℕ → Process → FileState → FileEffect
write_text None text p s = misuse_effect wrong_kind p s
write_text (Some file) text p s = write_where (has_room s file.path (length text)) file text p s

abbrev pub write_line : List ℕ → List Operand → Process → FileState → FileEffect
write_line name operands p s =
    write_text (open_for allows_write name p) (printed_line (operand_values p operands)) p s

-- ---- `copy f g`: the rest of f, open for `r`, is appended to g, and f's place moves behind what was copied

-- it reads f before it is found to be too long
abbrev pub copy_where : Bool → List ℕ → OpenFile → OpenFile → Process → FileState → FileEffect
copy_where false name source target p s = record {
  process = with_exit_status too_long_status p;
  files = s;
  acts = Read source.path ∷ [];
}
copy_where true name source target p s = record {
  process = went_on (at_place name source (copy_end s source.path source.place) p);
  files = after_copy s source.path source.place target.path;
  acts = Read source.path ∷ Wrote target.path ∷ [];
}

abbrev pub copy_between : List ℕ → Option OpenFile → Option OpenFile → Process → FileState → FileEffect
copy_between name None target p s = misuse_effect wrong_kind p s
copy_between name (Some source) None p s = misuse_effect wrong_kind p s
copy_between name (Some source) (Some target) p s =
    copy_where (has_room s target.path (length (rest_at s source.path source.place))) name source target p s

abbrev pub copy_rest : List ℕ → List ℕ → Process → FileState → FileEffect
copy_rest source target p s =
    copy_between source (open_for allows_read source p) (open_for allows_write target p) p s

-- ---- `close f`: f isn't open any more

abbrev pub close_file : Option OpenFile → List ℕ → Process → Process
close_file None name p = with_exit_status wrong_kind p
close_file (Some file) name p = went_on (record p { files = unbind name p.files })

abbrev pub close : List ℕ → Process → Process
close name p = close_file (lookup name p.files) name p

-- ---- `remove v else L`: the path is absent afterwards

abbrev pub remove_found : Bool → List ℕ → ℕ → Process → FileState → FileEffect
remove_found false path place p s = record {
  process = went_to place p;
  files = s;
  acts = Tested path false ∷ [];
}
remove_found true path place p s = record {
  process = went_on p;
  files = after_remove s path;
  acts = Removed path ∷ [];
}

abbrev pub remove_path : Option (List ℕ) → ℕ → Process → FileState → FileEffect
remove_path None place p s = misuse_effect bad_path p s
remove_path (Some path) place p s = remove_found (is_there s path) path place p s

-- ---- `exists x v`: x gets 1 where the path is there, else 0

abbrev pub number_of_test : Bool → ℕ
number_of_test true = 1
number_of_test false = 0

abbrev pub exists_where : Bool → List ℕ → List ℕ → Process → FileState → FileEffect
exists_where found to path p s = record {
  process = went_on (with_variable to (Int (pos (number_of_test found))) p);
  files = s;
  acts = Tested path found ∷ [];
}

abbrev pub test_path : List ℕ → Option (List ℕ) → Process → FileState → FileEffect
test_path to None p s = misuse_effect bad_path p s
test_path to (Some path) p s = exists_where (is_there s path) to path p s
