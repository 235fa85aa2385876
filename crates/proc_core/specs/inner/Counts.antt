-- Bounds on the counts of a run: a step adds at most one to each count.
use Rattle.std.specs.Prelude.{◌≡◌, ℕ, ◌+◌, ◌<◌, ◌≤◌, ◌^◌, List, length, slice_get, Option, Some, None}
use Rattle.sql_model.specs.declared.reply.Reply.{Reply}
use Rattle.proc_core.specs.declared.machine.Machine.{Machine}
use Rattle.proc_core.specs.declared.process.SlotProcess.{SlotProcess}

-- of a process its replies, and how many children it made
abbrev pub counted_of : SlotProcess → List Reply × ℕ
counted_of r = (r.replies, r.spawned)

abbrev pub AreBelow : ℕ → List Reply × ℕ → Type 0
AreBelow n counted = (length counted.0 < n) × (counted.1 < n)

-- each process has fewer replies than a number, and made fewer children
abbrev pub HaveFewer : ℕ → List SlotProcess → Type 0
HaveFewer n rs = (k : ℕ) (r : SlotProcess) → slice_get rs k ≡ Some r → AreBelow n (counted_of r)

-- Fewer statements than a number were asked, and each process has fewer replies and made fewer children. The
-- set of those that may run has no more flags than there are processes.
pub record CountsBelow (n : ℕ) (m : Machine) : Type 0 where
  pub all : m.asked < n
  pub each : HaveFewer n m.processes.items
  pub flags : length m.ready.flags ≤ length m.processes.items

-- one child more of a process is counted
abbrev pub MaySpawn : Option SlotProcess → Type 0
MaySpawn None = Unit {0}
MaySpawn (Some r) = r.spawned + 1 < 2 ^ 32
