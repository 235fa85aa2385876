-- When a machine in memory, with its set of processes that may run, represents a state of the model.
use Rattle.std.specs.Prelude.{◌==◌, length, Bool, ◌≡◌, ℕ, ◌<◌, List, slice_get, Some}
use Rattle.std.specs.List.{AllByRecursion}
use Rattle.ready_set.specs.Ready.{numbers}
use Rattle.run_model.specs.State.{State}
use Rattle.run_model.specs.Core.{NameBinding, Process, Core}
use Rattle.proc_core.specs.declared.machine.Machine.{Machine}
use Rattle.proc_core.specs.Stands.{IsState}
use Rattle.proc_core.specs.Flags.{runnable_flags}

-- a child was made by a process, and after it
abbrev pub IsKin : List ℕ → ℕ → NameBinding ℕ → Type 0
IsKin parents number b = (slice_get parents b.bound ≡ Some number) × (number < b.bound)

abbrev pub AreKin : List ℕ → List Process → Type 0
AreKin parents ps =
    (number : ℕ) (p : Process) → slice_get ps number ≡ Some p
    → AllByRecursion (IsKin parents number) p.children

pub record IsReady (m : Machine) (c : Core) : Type 0 where
  pub flags : m.ready.flags ≡ runnable_flags c.processes
  pub count : length m.parents ≡ length c.processes
  pub kin : AreKin m.parents c.processes

pub record Stands {Db : Type 0} (m : Machine) (db : Db) (s : State Db) : Type 0 where
  pub state : IsState m db s
  pub ready : IsReady m s.core

-- no process may run
abbrev pub has_ended : Machine → Bool
has_ended m = length (numbers m.ready.flags) == 0
