-- The step of `spawn` over slots. `StepProcesses` of `run_model` defines it by names.
use Rattle.std.specs.Prelude.{◌≡◌, ℕ, ◌+◌, List, [], ◌∷◌, ◌++◌, length, slice_get, slice_set, nat_lt}
use Rattle.std.specs.Prelude.{true}
use Rattle.std.specs.Prelude.{if◌then◌else◌, Option, Some, None}
use Rattle.ldv_value.specs.FileState.{content_at}
use Rattle.ldv_value.specs.Limits.{max_processes}
use Rattle.script_parse.specs.Script.{script_of}
use Rattle.proc_core.specs.Types.{Value, Instr}
use Rattle.run_model.specs.Core.{new_process}
use Rattle.run_model.specs.StepFiles.{path_in}
use Rattle.script_code.specs.declared.code.Code.{Code}
use Rattle.script_code.specs.declared.code.SlotInstr.{SlotInstr}
use Rattle.script_code.specs.declared.code.SlotInstr.TheVariants.{Own, OnFiles, Spawn, Wait, Sql}
use Rattle.script_code.specs.Resolved.{IsRead}
use Rattle.proc_core.specs.declared.machine.Machine.{Machine}
use Rattle.proc_core.specs.declared.process.SlotProcess.{SlotProcess}
use Rattle.proc_core.specs.declared.spawn.program.Program.{Program}
use Rattle.proc_core.specs.declared.spawn.program.Program.TheVariants.{Absent, Refused, Known, New}
use Rattle.proc_core.specs.declared.spawn.spawn_request.SpawnRequest.{SpawnRequest}
use Rattle.proc_core.specs.inner.Slots.{slot_value, slot_values, slot_went_on, slot_with_child}
use Rattle.proc_core.specs.Stands.{Holds}
use Rattle.proc_core.specs.inner.SlotStep.{next_slot_instr}

-- ---- what a `spawn` says

abbrev pub slot_request : Option SlotInstr → SlotProcess → Option SpawnRequest
slot_request None r = None
slot_request (Some (Own o)) r = None
slot_request (Some (OnFiles f)) r = None
slot_request (Some (Spawn child path arguments place)) r = Some (record {
  child = child;
  path = path_in (slot_value r path);
  arguments = slot_values r arguments;
  place = place;
})
slot_request (Some (Wait to child)) r = None
slot_request (Some (Sql cursor text params)) r = None

abbrev pub slot_request_in : List Code → Option SlotProcess → Option SpawnRequest
slot_request_in codes None = None
slot_request_in codes (Some r) = slot_request (next_slot_instr codes (Some r)) r

abbrev pub slot_request_at : Machine → ℕ → Option SpawnRequest
slot_request_at m number = slot_request_in m.codes (slice_get m.processes.items number)

-- ---- what there is to run

-- a process runs the resolved form of these bytes
abbrev pub Runs : List Code → List SlotProcess → List ℕ → ℕ → Type 0
Runs codes rs bytes index =
    (k : ℕ) × (r : SlotProcess) × (code : Code) × (slice_get rs k ≡ Some r) × (r.code ≡ index)
    × (slice_get codes index ≡ Some code) × (code.source ≡ bytes)

-- the same as what there is to run
abbrev pub IsProgramRead : List ℕ → Program → Type 0
IsProgramRead bytes Absent = ⊥
IsProgramRead bytes Refused = IsRead bytes None
IsProgramRead bytes (Known index) = ⊥
IsProgramRead bytes (New code) = IsRead bytes (Some code)

-- none where as many processes were made as may be
abbrev pub script_in : List SlotProcess → List ℕ → Option (List Instr)
script_in rs bytes = if nat_lt (length rs) max_processes then script_of bytes else None

-- what a file of these bytes is to a machine
abbrev pub IsProgramOf : Machine → List ℕ → Program → Type 0
IsProgramOf m bytes Absent = ⊥
IsProgramOf m bytes Refused = script_in m.processes.items bytes ≡ None
IsProgramOf m bytes (Known index) =
    (nat_lt (length m.processes.items) max_processes ≡ true) × Runs m.codes m.processes.items bytes index
IsProgramOf m bytes (New code) =
    (nat_lt (length m.processes.items) max_processes ≡ true) × IsRead bytes (Some code)

abbrev pub IsFileProgram : Machine → List ℕ → Program → Type 0
IsFileProgram m path program =
    (bytes : List ℕ) × (content_at m.tree path ≡ Some bytes) × IsProgramOf m bytes program

abbrev pub IsProgram : Machine → List ℕ → Program → Type 0
IsProgram m path Absent = content_at m.tree path ≡ None
IsProgram m path Refused = IsFileProgram m path Refused
IsProgram m path (Known index) = IsFileProgram m path (Known index)
IsProgram m path (New code) = IsFileProgram m path (New code)

-- ---- what is left

-- the parent of a child that has a creation number
abbrev pub slot_parent : ℕ → ℕ → SlotProcess → SlotProcess
slot_parent number slot r =
    slot_went_on (record (slot_with_child slot number r) { spawned = r.spawned + 1 })

-- the processes after a child was made
abbrev pub slot_with_new : ℕ → ℕ → SlotProcess → SlotProcess → List SlotProcess → List SlotProcess
slot_with_new number slot child r rs = slice_set rs number (slot_parent (length rs) slot r) ++ child ∷ []

-- all but the scripts, the processes and who may run
pub record IsElse (m after : Machine) : Type 0 where
  pub tree : after.tree ≡ m.tree
  pub seed : after.seed ≡ m.seed
  pub last : after.last ≡ m.last
  pub generator : after.generator ≡ m.generator
  pub asked : after.asked ≡ m.asked

-- no process was made
pub record IsNoChild (m after : Machine) : Type 0 where
  pub codes : after.codes ≡ m.codes
  pub ready : after.ready ≡ m.ready
  pub parents : after.parents ≡ m.parents
  pub others : IsElse m after

-- a child of a process was made, which runs the script of an index
pub record HasChild (m : Machine) (number slot index : ℕ) (code : Code) (r : SlotProcess)
    (arguments : List Value) (after : Machine) : Type 0 where
  pub child : SlotProcess
  pub held : (script : List Instr)
      → Holds code.scope index script child (new_process (r.name ++ r.spawned ∷ []) script arguments)
  pub items : after.processes.items ≡ slot_with_new number slot child r m.processes.items
  pub codes : after.codes ≡ m.codes
  pub ready : after.ready.flags ≡ m.ready.flags ++ true ∷ []
  pub parents : after.parents ≡ m.parents ++ number ∷ []
  pub others : IsElse m after
