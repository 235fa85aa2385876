-- Open files by slot, and the results of reads and writes of them.
use Rattle.std.proofs.Common.{◌≡◌, ℕ, List, map, refl, sym, ap, ◌∙◌, subst, Bool, true, inl, inr}
use Rattle.std.specs.Prelude.{Option, Some, None, option_and_then, if◌then◌else◌, ◌&&◌}
use Rattle.std.specs.Str.{IsUtf8, is_utf8}
use Rattle.std.proofs.lemmas.Str.{is_utf8-from_IsUtf8}
use Rattle.ldv_value.specs.Names.{path_test}
use Rattle.ldv_value.proofs.Cases.{cases-bool}
use Rattle.ldv_value.specs.FileState.{FileState, read_line}
use Rattle.ldv_value.specs.declared.file.OpenMode.{OpenMode}
use Rattle.ldv_value.specs.declared.line.LineRead.{LineRead}
use Rattle.proc_core.specs.Types.{Text, Act, Event}
use Rattle.run_model.specs.Core.{OpenFile}
use Rattle.run_model.specs.Events.{event_at}
use Rattle.run_model.specs.StepBase.{wrong_kind}
use Rattle.run_model.specs.StepFiles.{path_in, if_allowed, allows_read}
use Rattle.proc_core.specs.declared.instructions.copy.Copying.{Copying}
use Rattle.proc_core.specs.declared.instructions.copy.Copying.TheVariants.{Misused, TooLong, Copied}
use Rattle.proc_core.specs.declared.process.SlotProcess.{SlotProcess}
use Rattle.proc_core.specs.inner.Slots.{open_at, slot_ended, slot_went_on}
use Rattle.proc_core.specs.inner.SlotCopy.{CopiesTo, CopiesAt, copy_acts, slot_copied}
use Rattle.proc_core.specs.inner.SlotFiles.{Leaves, slot_at_place, slot_open_for, slot_copy_where, slot_copy_between, slot_take_line, slot_read_next, IsReadBy, read_acts}
use Rattle.proc_core.specs.Stands.{AppendsEvents}

-- what allows it is open
allowed_at : (allows : OpenMode → Bool) (o : Option OpenFile) (file : OpenFile) → option_and_then (if_allowed allows) o ≡ Some file → o ≡ Some file
allowed_at allows None file is = absurd cc
allowed_at allows (Some f) file is = elim (cases-bool (allows f.mode)) [
  | inl may ↦ (rw may at is)
  | inr not ↦ let no : None ≡ Some file = rw not at is in absurd cc
]

pub open_for_at : (allows : OpenMode → Bool) (slot : ℕ) (r : SlotProcess) (file : OpenFile) → slot_open_for allows slot r ≡ Some file → open_at slot r ≡ Some file
open_for_at allows slot r file is = allowed_at allows (open_at slot r) file is

-- ---- `readline`

module _ (to slot place : ℕ) (r : SlotProcess) (st : FileState) where
  -- nothing was read
  read_nothing_by : (o : Option OpenFile) (r1 : SlotProcess) → IsReadBy o st None → r1 ≡ slot_ended wrong_kind r
      → r1 ≡ (slot_read_next o to slot place r st).process
  read_nothing_by None r1 is same = same
  read_nothing_by (Some file) r1 is same = absurd cc

  read_line_by : (o : Option OpenFile) (line : LineRead) (r1 : SlotProcess) → ((file : OpenFile) → o ≡ Some file → open_at slot r ≡ Some file)
      → IsReadBy o st (Some line) → ((file : OpenFile) → open_at slot r ≡ Some file → r1 ≡ slot_take_line line to slot file place r)
      → r1 ≡ (slot_read_next o to slot place r st).process
  read_line_by None line r1 at is takes = absurd cc
  read_line_by (Some file) line r1 at is takes =
      let same : line ≡ read_line st file.path file.place = cc in
      takes file (at file refl) ∙ ap (λ (l : LineRead). slot_take_line l to slot file place r) same

  pub read_nothing : (r1 : SlotProcess) → IsReadBy (slot_open_for allows_read slot r) st None → r1 ≡ slot_ended wrong_kind r
      → r1 ≡ (slot_read_next (slot_open_for allows_read slot r) to slot place r st).process
  read_nothing r1 is same = read_nothing_by (slot_open_for allows_read slot r) r1 is same

  pub read_line_same : (line : LineRead) (r1 : SlotProcess) → IsReadBy (slot_open_for allows_read slot r) st (Some line)
      → ((file : OpenFile) → open_at slot r ≡ Some file → r1 ≡ slot_take_line line to slot file place r)
      → r1 ≡ (slot_read_next (slot_open_for allows_read slot r) to slot place r st).process
  read_line_same line r1 is takes =
      read_line_by (slot_open_for allows_read slot r) line r1 (λ file same. open_for_at allows_read slot r file same) is takes

  acts_by : (o : Option OpenFile) → read_acts o ≡ (slot_read_next o to slot place r st).acts
  acts_by None = refl
  acts_by (Some file) = refl

  pub read_told : (keeps : Bool) (old new : List Event) (step number : ℕ)
      → AppendsEvents keeps old new (map (event_at step number) (read_acts (slot_open_for allows_read slot r)))
      → AppendsEvents keeps old new (map (event_at step number) (slot_read_next (slot_open_for allows_read slot r) to slot place r st).acts)
  read_told keeps old new step number told =
      subst (λ (acts : List Act). AppendsEvents keeps old new (map (event_at step number) acts)) (acts_by (slot_open_for allows_read slot r)) told

-- ---- `copy`

module _ (slot : ℕ) (r r1 : SlotProcess) (old new : FileState) where
  copy_left_by : (o t : Option OpenFile) (copying : Copying) → ((file : OpenFile) → o ≡ Some file → open_at slot r ≡ Some file)
      → CopiesAt o t old copying new → (copying ≡ Misused → r1 ≡ slot_ended wrong_kind r)
      → ((file : OpenFile) → open_at slot r ≡ Some file → r1 ≡ slot_copied copying slot file r)
      → Leaves (slot_copy_between slot o t r old) r1 new
  copy_left_by None t Misused at is misused takes = (misused refl, is)
  copy_left_by None t TooLong at is misused takes = absurd is
  copy_left_by None t (Copied next) at is misused takes = absurd is
  copy_left_by (Some source) None Misused at is misused takes = (misused refl, is)
  copy_left_by (Some source) None TooLong at is misused takes = absurd is
  copy_left_by (Some source) None (Copied next) at is misused takes = absurd is
  copy_left_by (Some source) (Some target) Misused at is misused takes = absurd is
  copy_left_by (Some source) (Some target) TooLong at is misused takes =
      subst (λ (room : Bool). Leaves (slot_copy_where room slot source target r old) r1 new) (sym is.0) (takes source (at source refl), is.1)
  copy_left_by (Some source) (Some target) (Copied next) at is misused takes =
      subst (λ (room : Bool). Leaves (slot_copy_where room slot source target r old) r1 new) (sym is.0)
      (takes source (at source refl) ∙ ap (λ (n : ℕ). slot_went_on (slot_at_place slot source n r)) is.2, is.1)

  pub copy_left : (t : Option OpenFile) (copying : Copying) → CopiesAt (slot_open_for allows_read slot r) t old copying new
      → (copying ≡ Misused → r1 ≡ slot_ended wrong_kind r)
      → ((file : OpenFile) → open_at slot r ≡ Some file → r1 ≡ slot_copied copying slot file r)
      → Leaves (slot_copy_between slot (slot_open_for allows_read slot r) t r old) r1 new
  copy_left t copying is misused takes =
      copy_left_by (slot_open_for allows_read slot r) t copying (λ file same. open_for_at allows_read slot r file same) is misused takes

module _ (slot : ℕ) (r : SlotProcess) (old new : FileState) where
  pub copy_acts_same : (source target : OpenFile) (next : Option ℕ) → CopiesTo source target old new next
      → copy_acts source target next ≡ (slot_copy_between slot (Some source) (Some target) r old).acts
  copy_acts_same source target None is = ap (λ (room : Bool). (slot_copy_where room slot source target r old).acts) (sym is.0)
  copy_acts_same source target (Some next) is = ap (λ (room : Bool). (slot_copy_where room slot source target r old).acts) (sym is.0)

  -- between files that are open
  pub copy_told : (o t : Option OpenFile) (source target : OpenFile) (next : Option ℕ) (keeps : Bool) (was is_now : List Event) (step number : ℕ)
      → Some source ≡ o → Some target ≡ t → CopiesTo source target old new next
      → AppendsEvents keeps was is_now (map (event_at step number) (copy_acts source target next))
      → AppendsEvents keeps was is_now (map (event_at step number) (slot_copy_between slot o t r old).acts)
  copy_told o t source target next keeps was is_now step number from to is told =
      subst (λ (x : Option OpenFile × Option OpenFile). AppendsEvents keeps was is_now (map (event_at step number) (slot_copy_between slot x.0 x.1 r old).acts))
      (λ i. (from i, to i))
      (subst (λ (acts : List Act). AppendsEvents keeps was is_now (map (event_at step number) acts)) (copy_acts_same source target next is) told)

-- ---- paths

-- a text that is one
pub path_found : (t : List ℕ) → path_test t ≡ true → IsUtf8 t → Some t ≡ path_in (Text t)
path_found t valid text =
    let both : (path_test t && is_utf8 t) ≡ true = λ i. valid i && is_utf8-from_IsUtf8 t text i in
    ap (λ (b : Bool). if b then Some t else None) (sym both)
