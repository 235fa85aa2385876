-- The result of a copy between open files, for each way that it may end.
use Rattle.std.specs.Prelude.{◌≡◌, ℕ, List, [], ◌∷◌, length, true, false, Option, Some, None}
use Rattle.ldv_value.specs.FileState.{FileState, has_room, rest_at, after_copy, copy_end}
use Rattle.proc_core.specs.Types.{Act, Read, Wrote}
use Rattle.run_model.specs.Core.{OpenFile}
use Rattle.run_model.specs.StepBase.{wrong_kind, too_long_status}
use Rattle.proc_core.specs.declared.instructions.copy.Copying.{Copying}
use Rattle.proc_core.specs.declared.instructions.copy.Copying.TheVariants.{Misused, TooLong, Copied}
use Rattle.proc_core.specs.declared.process.SlotProcess.{SlotProcess}
use Rattle.proc_core.specs.inner.Slots.{slot_ended, slot_went_on}
use Rattle.proc_core.specs.inner.SlotFiles.{slot_at_place}

-- whether there is room for the rest of a file
abbrev pub HasRoomFor : OpenFile → OpenFile → FileState → Type 0
HasRoomFor source target st = has_room st target.path (length (rest_at st source.path source.place)) ≡ true

abbrev pub HasNoRoomFor : OpenFile → OpenFile → FileState → Type 0
HasNoRoomFor source target st =
    has_room st target.path (length (rest_at st source.path source.place)) ≡ false

-- the files after the rest was appended, and the place after it; none where there was no room
abbrev pub CopiesTo : OpenFile → OpenFile → FileState → FileState → Option ℕ → Type 0
CopiesTo source target old new None = HasNoRoomFor source target old × (new ≡ old)
CopiesTo source target old new (Some next) =
    HasRoomFor source target old
    × (new ≡ after_copy old source.path source.place target.path)
    × (next ≡ copy_end old source.path source.place)

abbrev pub copy_acts : OpenFile → OpenFile → Option ℕ → List Act
copy_acts source target None = Read source.path ∷ []
copy_acts source target (Some next) = Read source.path ∷ Wrote target.path ∷ []

-- how a copy ends between files that may be open
abbrev pub CopiesAt : Option OpenFile → Option OpenFile → FileState → Copying → FileState → Type 0
CopiesAt None target old Misused new = new ≡ old
CopiesAt None target old TooLong new = ⊥
CopiesAt None target old (Copied next) new = ⊥
CopiesAt (Some source) None old Misused new = new ≡ old
CopiesAt (Some source) None old TooLong new = ⊥
CopiesAt (Some source) None old (Copied next) new = ⊥
CopiesAt (Some source) (Some target) old Misused new = ⊥
CopiesAt (Some source) (Some target) old TooLong new = CopiesTo source target old new None
CopiesAt (Some source) (Some target) old (Copied next) new = CopiesTo source target old new (Some next)

-- what becomes of the process
abbrev pub slot_copied : Copying → ℕ → OpenFile → SlotProcess → SlotProcess
slot_copied Misused slot file r = slot_ended wrong_kind r
slot_copied TooLong slot file r = slot_ended too_long_status r
slot_copied (Copied next) slot file r = slot_went_on (slot_at_place slot file next r)
