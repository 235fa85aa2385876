-- The set of processes that may run, over slots.
use Rattle.std.specs.Prelude.{◌≡◌, ℕ, suc, List, [], ◌∷◌, ◌++◌, length, slice_get, slice_set, Bool, true}
use Rattle.std.specs.Prelude.{Option, Some, None}
use Rattle.script_code.specs.declared.code.Code.{Code}
use Rattle.proc_core.specs.declared.machine.Machine.{Machine}
use Rattle.proc_core.specs.declared.process.SlotProcess.{SlotProcess}
use Rattle.proc_core.specs.inner.SlotStep.{slot_is_runnable, slot_status_in}

-- ---- what a step leaves of it

-- one number more where a process was made, which may run, and else the same
pub record Grows (m : Machine) (number : ℕ) (after : Machine) : Type 0 where
  pub same : length after.processes.items ≡ length m.processes.items
      → (after.ready ≡ m.ready) × (after.parents ≡ m.parents)
  pub more : length after.processes.items ≡ suc (length m.processes.items)
      → (after.ready.flags ≡ m.ready.flags ++ true ∷ []) × (after.parents ≡ m.parents ++ number ∷ [])

-- ---- brought up to date

module _ (codes : List Code) (rs : List SlotProcess) where
  abbrev pub marked_by : ℕ → Option SlotProcess → List Bool → List Bool
  marked_by number None flags = flags
  marked_by number (Some r) flags = slice_set flags number (slot_is_runnable codes rs r)

  -- the flag of a process says whether it may run
  abbrev pub marked : ℕ → List Bool → List Bool
  marked number flags = marked_by number (slice_get rs number) flags

  abbrev pub marked_parent : Option ℕ → List Bool → List Bool
  marked_parent None flags = flags
  marked_parent (Some parent) flags = marked parent flags

  -- of a process that has ended
  abbrev pub marked_above : Option ℕ → Option ℕ → List Bool → List Bool
  marked_above None parent flags = flags
  marked_above (Some status) parent flags = marked_parent parent flags

  -- after a step of a process: its flag, and where it has ended that of its parent
  abbrev pub refreshed : List ℕ → ℕ → List Bool → List Bool
  refreshed parents number flags =
      marked_above (slot_status_in rs number) (slice_get parents number) (marked number flags)
