-- An instruction that asks nothing doesn't diverge, and neither does taking a reply.
use Rattle.std.proofs.Common.{◌≡◌, ℕ, List, refl}
use Rattle.std.specs.Prelude.{Option, Some, None, slice_get}
use Rattle.ldv_value.specs.FileState.{content_at}
use Rattle.script_parse.specs.declared.script.Instr.TheVariants as instr
use Rattle.run_model.specs.Types.{Instr, Reply}
use Rattle.run_model.specs.Core.{lookup, Process, Core}
use Rattle.run_model.specs.Step.{Ask, execute, execute_next, local_step_of, took_of}
use Rattle.run_model.specs.StepFiles.{path_at}
use Rattle.run_model.specs.StepProcesses.{SpawnRequest, spawn_script, script_within, spawn_file, spawn_path, spawning_of, status_in, wait_until, wait_for}

spawned : (o : Option (List Instr)) (spawning : SpawnRequest) (path : List ℕ) (number : ℕ) (p : Process) (c : Core)
    → (spawn_script o spawning path number p c).core.diverged ≡ c.diverged
spawned None spawning path number p c = refl
spawned (Some script) spawning path number p c = refl

spawned_file : (o : Option (List ℕ)) (spawning : SpawnRequest) (path : List ℕ) (number : ℕ) (p : Process) (c : Core)
    → (spawn_file o spawning path number p c).core.diverged ≡ c.diverged
spawned_file None spawning path number p c = refl
spawned_file (Some bytes) spawning path number p c = spawned (script_within c bytes) spawning path number p c

spawned_path : (o : Option (List ℕ)) (spawning : SpawnRequest) (number : ℕ) (p : Process) (c : Core)
    → (spawn_path o spawning number p c).core.diverged ≡ c.diverged
spawned_path None spawning number p c = refl
spawned_path (Some path) spawning number p c = spawned_file (content_at c.files path) spawning path number p c

waited_until : (o : Option ℕ) (child : ℕ) (to : List ℕ) (number : ℕ) (p : Process) (c : Core)
    → (wait_until o child to number p c).core.diverged ≡ c.diverged
waited_until None child to number p c = refl
waited_until (Some status) child to number p c = refl

waited : (o : Option ℕ) (to : List ℕ) (number : ℕ) (p : Process) (c : Core)
    → (wait_for o to number p c).core.diverged ≡ c.diverged
waited None to number p c = refl
waited (Some child) to number p c = waited_until (status_in c.processes child) child to number p c

executed : (i : Instr) (number : ℕ) (p : Process) (c : Core) → (execute i number p c).core.diverged ≡ c.diverged
executed (instr.Spawn child path arguments place) number p c =
    spawned_path (path_at path p) (spawning_of child arguments place p) number p c
executed (instr.Wait to child) number p c = waited (lookup child p.children) to number p c
executed other number p c = refl

executed_next : (o : Option Instr) (number : ℕ) (p : Process) (c : Core)
    → (execute_next o number p c).core.diverged ≡ c.diverged
executed_next None number p c = refl
executed_next (Some i) number p c = executed i number p c

pub quiet_goes : (o : Option Process) (number : ℕ) (c : Core) → (local_step_of o number c).core.diverged ≡ c.diverged
quiet_goes None number c = refl
quiet_goes (Some p) number c = executed_next (slice_get p.script p.place) number p c

pub took_goes : (o : Option Process) (number : ℕ) (a : Ask) (reply : Reply) (c : Core) → (took_of o number a reply c).diverged ≡ c.diverged
took_goes None number a reply c = refl
took_goes (Some p) number a reply c = refl
