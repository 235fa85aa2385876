-- The steps of `open`, `readline`, `write`, `copy`, `remove` and `exists` over slots. `StepFiles` of
-- `run_model` defines them by names.
use Rattle.std.specs.Prelude.{◌≡◌, ℕ, pos, List, [], ◌∷◌, length, Bool, true, false}
use Rattle.std.specs.Prelude.{Option, Some, None, option_and_then}
use Rattle.ldv_value.specs.FileState.{FileState, is_there, FileRefusal, open_refusal, after_open}
use Rattle.ldv_value.specs.FileState.{after_remove}
use Rattle.ldv_value.specs.FileState.{has_room}
use Rattle.ldv_value.specs.FileState.{rest_at, after_append, after_copy, copy_end, read_line}
use Rattle.ldv_value.specs.declared.file.OpenMode.{OpenMode}
use Rattle.ldv_value.specs.declared.line.LineRead.{LineRead}
use Rattle.ldv_value.specs.declared.line.LineRead.TheVariants as lines
use Rattle.proc_core.specs.Types.{Int, Text, Act, Unopened, Read, Wrote, Removed, Tested}
use Rattle.run_model.specs.Core.{OpenFile}
use Rattle.run_model.specs.StepBase.{wrong_kind, too_long_status, bad_path, not_utf8}
use Rattle.run_model.specs.StepFiles.{path_in, allows_read, allows_write, if_allowed, opened_file, open_act}
use Rattle.run_model.specs.StepFiles.{number_of_test}
use Rattle.run_model.specs.StepVariables.{printed_line}
use Rattle.script_code.specs.declared.code.FileInstr.{FileInstr}
use Rattle.script_code.specs.declared.code.FileInstr.TheVariants as on_files
use Rattle.proc_core.specs.declared.process.SlotProcess.{SlotProcess}
use Rattle.proc_core.specs.inner.Slots.{open_at, slot_value, slot_values, slot_ended, slot_went_on}
use Rattle.proc_core.specs.inner.Slots.{slot_went_to}
use Rattle.proc_core.specs.inner.Slots.{slot_with_variable, slot_with_file}

-- the process and the files after a step, and what it did
pub record SlotEffect : Type 0 where
  pub process : SlotProcess
  pub files : FileState
  pub acts : List Act

-- a step that leaves this process and these files
abbrev pub Leaves : SlotEffect → SlotProcess → FileState → Type 0
Leaves e r st = (r ≡ e.process) × (st ≡ e.files)

abbrev pub slot_misused : ℕ → SlotProcess → FileState → SlotEffect
slot_misused status r st = record { process = slot_ended status r; files = st; acts = [] }

-- ---- `open`

abbrev pub slot_open_unless : Option FileRefusal → Bool → ℕ → OpenMode → List ℕ → ℕ → SlotProcess → FileState
    → SlotEffect
slot_open_unless (Some refusal) found slot mode path place r st = record {
  process = slot_went_to place r;
  files = st;
  acts = Unopened path found ∷ [];
}
slot_open_unless None found slot mode path place r st = record {
  process = slot_went_on (slot_with_file slot (Some (opened_file path mode)) r);
  files = after_open mode st path;
  acts = open_act mode path found ∷ [];
}

abbrev pub slot_open_found : Bool → ℕ → OpenMode → List ℕ → ℕ → SlotProcess → FileState → SlotEffect
slot_open_found found slot mode path place r st =
    slot_open_unless (open_refusal mode found) found slot mode path place r st

abbrev pub slot_open_path : Option (List ℕ) → ℕ → OpenMode → ℕ → SlotProcess → FileState → SlotEffect
slot_open_path None slot mode place r st = slot_misused bad_path r st
slot_open_path (Some path) slot mode place r st =
    slot_open_found (is_there st path) slot mode path place r st

-- ---- `readline`

abbrev pub slot_open_for : (OpenMode → Bool) → ℕ → SlotProcess → Option OpenFile
slot_open_for allows slot r = option_and_then (if_allowed allows) (open_at slot r)

abbrev pub slot_at_place : ℕ → OpenFile → ℕ → SlotProcess → SlotProcess
slot_at_place slot file place r = slot_with_file slot (Some (record file { place = place })) r

abbrev pub slot_take_line : LineRead → ℕ → ℕ → OpenFile → ℕ → SlotProcess → SlotProcess
slot_take_line lines.End to slot file place r = slot_went_to place r
slot_take_line (lines.Line line next) to slot file place r =
    slot_went_on (slot_with_variable to (Text line) (slot_at_place slot file next r))
slot_take_line lines.TooLong to slot file place r = slot_ended too_long_status r
slot_take_line lines.NotText to slot file place r = slot_ended not_utf8 r

abbrev pub slot_read_next : Option OpenFile → ℕ → ℕ → ℕ → SlotProcess → FileState → SlotEffect
slot_read_next None to slot place r st = slot_misused wrong_kind r st
slot_read_next (Some file) to slot place r st = record {
  process = slot_take_line (read_line st file.path file.place) to slot file place r;
  files = st;
  acts = Read file.path ∷ [];
}

-- what is read of a file that may be open
abbrev pub IsReadBy : Option OpenFile → FileState → Option LineRead → Type 0
IsReadBy None st read = read ≡ None
IsReadBy (Some file) st read = read ≡ Some (read_line st file.path file.place)

abbrev pub read_acts : Option OpenFile → List Act
read_acts None = []
read_acts (Some file) = Read file.path ∷ []

-- ---- `write`

abbrev pub slot_write_where : Bool → OpenFile → List ℕ → SlotProcess → FileState → SlotEffect
slot_write_where false file text r st = slot_misused too_long_status r st
slot_write_where true file text r st = record {
  process = slot_went_on r;
  files = after_append st file.path text;
  acts = Wrote file.path ∷ [];
}

abbrev pub slot_write_text : Option OpenFile → List ℕ → SlotProcess → FileState → SlotEffect
slot_write_text None text r st = slot_misused wrong_kind r st
slot_write_text (Some file) text r st =
    slot_write_where (has_room st file.path (length text)) file text r st

-- it goes on, or ends by misuse
abbrev pub slot_on_or_ended : Option ℕ → SlotProcess → SlotProcess
slot_on_or_ended None r = slot_went_on r
slot_on_or_ended (Some status) r = slot_ended status r

-- the files after a line was appended, where there was no misuse
abbrev pub LeavesAppended : Option OpenFile → List ℕ → SlotProcess → FileState → Option ℕ → FileState → Type 0
LeavesAppended file text r st misuse left =
    Leaves (slot_write_text file text r st) (slot_on_or_ended misuse r) left

-- ---- `copy`

abbrev pub slot_copy_where : Bool → ℕ → OpenFile → OpenFile → SlotProcess → FileState → SlotEffect
slot_copy_where false slot source target r st = record {
  process = slot_ended too_long_status r;
  files = st;
  acts = Read source.path ∷ [];
}
slot_copy_where true slot source target r st = record {
  process = slot_went_on (slot_at_place slot source (copy_end st source.path source.place) r);
  files = after_copy st source.path source.place target.path;
  acts = Read source.path ∷ Wrote target.path ∷ [];
}

abbrev pub slot_copy_between : ℕ → Option OpenFile → Option OpenFile → SlotProcess → FileState → SlotEffect
slot_copy_between slot None target r st = slot_misused wrong_kind r st
slot_copy_between slot (Some source) None r st = slot_misused wrong_kind r st
slot_copy_between slot (Some source) (Some target) r st =
    slot_copy_where
    (has_room st target.path (length (rest_at st source.path source.place)))
    slot
    source
    target
    r
    st

-- ---- `remove`

abbrev pub slot_remove_found : Bool → List ℕ → ℕ → SlotProcess → FileState → SlotEffect
slot_remove_found false path place r st = record {
  process = slot_went_to place r;
  files = st;
  acts = Tested path false ∷ [];
}
slot_remove_found true path place r st = record {
  process = slot_went_on r;
  files = after_remove st path;
  acts = Removed path ∷ [];
}

abbrev pub slot_remove : Option (List ℕ) → ℕ → SlotProcess → FileState → SlotEffect
slot_remove None place r st = slot_misused bad_path r st
slot_remove (Some path) place r st = slot_remove_found (is_there st path) path place r st

-- ---- `exists`

abbrev pub slot_exists_where : Bool → ℕ → List ℕ → SlotProcess → FileState → SlotEffect
slot_exists_where found to path r st = record {
  process = slot_went_on (slot_with_variable to (Int (pos (number_of_test found))) r);
  files = st;
  acts = Tested path found ∷ [];
}

abbrev pub slot_exists : Option (List ℕ) → ℕ → SlotProcess → FileState → SlotEffect
slot_exists None to r st = slot_misused bad_path r st
slot_exists (Some path) to r st = slot_exists_where (is_there st path) to path r st

-- ---- each instruction

abbrev pub slot_on_files : FileInstr → SlotProcess → FileState → SlotEffect
slot_on_files (on_files.OpenPath slot mode path place) r st =
    slot_open_path (path_in (slot_value r path)) slot mode place r st
slot_on_files (on_files.ReadLine to slot place) r st =
    slot_read_next (slot_open_for allows_read slot r) to slot place r st
slot_on_files (on_files.WriteLine slot operands) r st =
    slot_write_text (slot_open_for allows_write slot r) (printed_line (slot_values r operands)) r st
slot_on_files (on_files.CopyRest source target) r st =
    slot_copy_between source (slot_open_for allows_read source r) (slot_open_for allows_write target r) r st
slot_on_files (on_files.Remove path place) r st = slot_remove (path_in (slot_value r path)) place r st
slot_on_files (on_files.Exists to path) r st = slot_exists (path_in (slot_value r path)) to r st
