-- The steps of `spawn` and `wait`.
use Rattle.std.specs.Prelude.{ℕ, ◌+◌, pos, List, [], ◌∷◌, ◌++◌, length, slice_get, slice_set, nat_lt}
use Rattle.std.specs.Prelude.{true, false, if◌then◌else◌, Option, Some, None, option_and_then}
use Rattle.ldv_value.specs.FileState.{content_at}
use Rattle.ldv_value.specs.Limits.{max_processes}
use Rattle.script_parse.specs.Script.{script_of}
use Rattle.run_model.specs.Types.{Value, Int, Operand, Instr, Spawned, Unspawned, Waited}
use Rattle.run_model.specs.Core.{lookup, bind, Process, new_process, Core}
use Rattle.run_model.specs.StepBase.{operand_values, with_exit_status, went_on, went_to, with_variable}
use Rattle.run_model.specs.StepBase.{wrong_kind}
use Rattle.run_model.specs.StepBase.{bad_path, Effect, own, process_effect}
use Rattle.run_model.specs.StepFiles.{path_at}

-- ---- `spawn p v v* else L`: a child runs the script at a path, with the other values as arguments

-- what a `spawn` says: the name that means the child, its arguments, and the label's place
pub record SpawnRequest : Type 0 where
  pub child : List ℕ
  pub arguments : List Value
  pub place : ℕ

-- children are named by their parent's name and their number among its children, from 0
abbrev pub child_of : Process → List Instr → List Value → Process
child_of p script arguments = new_process (p.name ++ p.spawned ∷ []) script arguments

-- the name means the child, by its creation number
abbrev pub parent_of : ℕ → List ℕ → Process → Process
parent_of number name p =
    went_on (record p { children = bind name number p.children; spawned = p.spawned + 1 })

-- the child is the last of the processes
abbrev pub with_child : ℕ → SpawnRequest → List Instr → Process → List Process → List Process
with_child number spawning script p processes =
    slice_set processes number (parent_of (length processes) spawning.child p)
    ++ child_of p script spawning.arguments ∷ []

-- where the file is there and is a script, for which there is room
abbrev pub spawn_script : Option (List Instr) → SpawnRequest → List ℕ → ℕ → Process → Core → Effect
spawn_script None spawning path number p c =
    process_effect number (went_to spawning.place p) (Unspawned path true ∷ []) c
spawn_script (Some script) spawning path number p c = record {
  core = record c { processes = with_child number spawning script p c.processes };
  acts = Spawned path ∷ [];
}

-- none where as many processes were made as may be
abbrev pub script_within : Core → List ℕ → Option (List Instr)
script_within c bytes = if nat_lt (length c.processes) max_processes then script_of bytes else None

-- by the bytes of the file
abbrev pub spawn_file : Option (List ℕ) → SpawnRequest → List ℕ → ℕ → Process → Core → Effect
spawn_file None spawning path number p c =
    process_effect number (went_to spawning.place p) (Unspawned path false ∷ []) c
spawn_file (Some bytes) spawning path number p c =
    spawn_script (script_within c bytes) spawning path number p c

abbrev pub spawn_path : Option (List ℕ) → SpawnRequest → ℕ → Process → Core → Effect
spawn_path None spawning number p c = own number (with_exit_status bad_path p) c
spawn_path (Some path) spawning number p c = spawn_file (content_at c.files path) spawning path number p c

abbrev pub spawning_of : List ℕ → List Operand → ℕ → Process → SpawnRequest
spawning_of child arguments place p = record {
  child = child;
  arguments = operand_values p arguments;
  place = place;
}

abbrev pub spawn : List ℕ → Operand → List Operand → ℕ → ℕ → Process → Core → Effect
spawn child path arguments place number p c =
    spawn_path (path_at path p) (spawning_of child arguments place p) number p c

-- ---- `wait x p`: x gets the status of the child p, once it has ended

abbrev pub status_in : List Process → ℕ → Option ℕ
status_in processes number = option_and_then (λ q. q.status) (slice_get processes number)

-- until then the process isn't chosen, and stays as it is
abbrev pub wait_until : Option ℕ → ℕ → List ℕ → ℕ → Process → Core → Effect
wait_until None child to number p c = record { core = c; acts = [] }
wait_until (Some status) child to number p c =
    process_effect number (went_on (with_variable to (Int (pos status)) p)) (Waited child ∷ []) c

abbrev pub wait_for : Option ℕ → List ℕ → ℕ → Process → Core → Effect
wait_for None to number p c = own number (with_exit_status wrong_kind p) c
wait_for (Some child) to number p c = wait_until (status_in c.processes child) child to number p c

abbrev pub wait : List ℕ → List ℕ → ℕ → Process → Core → Effect
wait to child number p c = wait_for (lookup child p.children) to number p c
