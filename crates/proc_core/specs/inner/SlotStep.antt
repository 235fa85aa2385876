-- One step over slots, of any instruction. `Step` of `run_model` defines it by names.
use Rattle.std.specs.Prelude.{ℕ, ◌+◌, ◌<◌, ◌^◌, pos, List, [], ◌∷◌, slice_get, Option, Some}
use Rattle.std.specs.Prelude.{None}
use Rattle.std.specs.Prelude.{option_and_then, Bool, true, false, not, ◌&&◌, is_none, if◌then◌else◌}
use Rattle.ldv_value.specs.FileState.{FileState}
use Rattle.proc_core.specs.Types.{Int, Waited}
use Rattle.run_model.specs.StepBase.{wrong_kind}
use Rattle.script_code.specs.declared.code.Code.{Code}
use Rattle.script_code.specs.declared.code.SlotInstr.{SlotInstr}
use Rattle.script_code.specs.declared.code.SlotInstr.TheVariants.{Own, OnFiles, Spawn, Wait, Sql}
use Rattle.proc_core.specs.declared.process.SlotProcess.{SlotProcess}
use Rattle.proc_core.specs.inner.Slots.{child_at, slot_ended, slot_went_on, slot_with_variable}
use Rattle.proc_core.specs.inner.SlotOwn.{slot_own}
use Rattle.proc_core.specs.inner.SlotFiles.{SlotEffect, slot_on_files}

-- ---- the next instruction

abbrev pub slotted_at : Option Code → ℕ → Option SlotInstr
slotted_at None place = None
slotted_at (Some code) place = slice_get code.instructions place

abbrev pub next_slot_instr : List Code → Option SlotProcess → Option SlotInstr
next_slot_instr codes None = None
next_slot_instr codes (Some r) = slotted_at (slice_get codes r.code) r.place

-- a process whose place isn't the last number
abbrev pub HasRoom : Option SlotProcess → Type 0
HasRoom None = Unit {0}
HasRoom (Some r) = r.place + 1 < 2 ^ 64

-- ---- who may run

abbrev pub slot_still_runs : Option SlotProcess → Bool
slot_still_runs None = false
slot_still_runs (Some r) = is_none r.status

abbrev pub slot_waits_for : Option ℕ → List SlotProcess → Bool
slot_waits_for None all = false
slot_waits_for (Some child) all = slot_still_runs (slice_get all child)

abbrev pub slot_waits_at : Option SlotInstr → SlotProcess → List SlotProcess → Bool
slot_waits_at None r all = false
slot_waits_at (Some (Own o)) r all = false
slot_waits_at (Some (OnFiles f)) r all = false
slot_waits_at (Some (Spawn child path arguments place)) r all = false
slot_waits_at (Some (Wait to child)) r all = slot_waits_for (child_at child r) all
slot_waits_at (Some (Sql cursor text params)) r all = false

abbrev pub slot_is_runnable : List Code → List SlotProcess → SlotProcess → Bool
slot_is_runnable codes all r = is_none r.status && not (slot_waits_at (next_slot_instr codes (Some r)) r all)

abbrev pub slot_runnable_from : List Code → ℕ → List SlotProcess → List SlotProcess → List ℕ
slot_runnable_from codes n all [] = []
slot_runnable_from codes n all (r ∷ rs) =
    if slot_is_runnable codes all r then n ∷ slot_runnable_from codes (n + 1) all rs
    else slot_runnable_from codes (n + 1) all rs

-- ---- what a step leaves

abbrev pub slot_wait_until : Option ℕ → ℕ → ℕ → SlotProcess → FileState → SlotEffect
slot_wait_until None child to r st = record { process = r; files = st; acts = [] }
slot_wait_until (Some status) child to r st = record {
  process = slot_went_on (slot_with_variable to (Int (pos status)) r);
  files = st;
  acts = Waited child ∷ [];
}

abbrev pub slot_status_in : List SlotProcess → ℕ → Option ℕ
slot_status_in all number = option_and_then (λ r. r.status) (slice_get all number)

-- by the status of the child that its name means
abbrev pub slot_wait_with : Option ℕ → Option ℕ → ℕ → SlotProcess → FileState → SlotEffect
slot_wait_with None status to r st = record { process = slot_ended wrong_kind r; files = st; acts = [] }
slot_wait_with (Some child) status to r st = slot_wait_until status child to r st

abbrev pub slot_child_status : Option ℕ → List SlotProcess → Option ℕ
slot_child_status None all = None
slot_child_status (Some child) all = slot_status_in all child

abbrev pub slot_wait_for : Option ℕ → ℕ → List SlotProcess → SlotProcess → FileState → SlotEffect
slot_wait_for child to all r st = slot_wait_with child (slot_child_status child all) to r st

-- of every instruction but `spawn`, which makes a process; an `sql` comes here where it asks nothing
abbrev pub slot_effect : Option SlotInstr → List SlotProcess → SlotProcess → FileState → SlotEffect
slot_effect None all r st = record { process = slot_ended 0 r; files = st; acts = [] }
slot_effect (Some (Own o)) all r st = record { process = slot_own o r; files = st; acts = [] }
slot_effect (Some (OnFiles f)) all r st = slot_on_files f r st
slot_effect (Some (Spawn child path arguments place)) all r st = record { process = r; files = st; acts = [] }
slot_effect (Some (Wait to child)) all r st = slot_wait_for (child_at child r) to all r st
slot_effect (Some (Sql cursor text params)) all r st = record {
  process = slot_ended wrong_kind r;
  files = st;
  acts = [];
}

-- a step that makes no process
abbrev pub IsLocal : Option SlotInstr → Type 0
IsLocal None = Unit {0}
IsLocal (Some (Own o)) = Unit {0}
IsLocal (Some (OnFiles f)) = Unit {0}
IsLocal (Some (Spawn child path arguments place)) = ⊥
IsLocal (Some (Wait to child)) = Unit {0}
IsLocal (Some (Sql cursor text params)) = Unit {0}

-- the same as a test, where it asks nothing either
abbrev pub slot_is_local : Option SlotInstr → Bool
slot_is_local None = true
slot_is_local (Some (Own o)) = true
slot_is_local (Some (OnFiles f)) = true
slot_is_local (Some (Spawn child path arguments place)) = false
slot_is_local (Some (Wait to child)) = true
slot_is_local (Some (Sql cursor text params)) = false
