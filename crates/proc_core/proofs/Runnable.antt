-- Which processes may run, over slots and as it is defined.
use Rattle.std.proofs.Common.{◌≡◌, ℕ, zero, suc, ◌+◌, List, [], ◌∷◌, refl, ap, ◌∙◌}
use Rattle.std.specs.Prelude.{Option, Some, None, slice_get, not, ◌&&◌, is_none, if◌then◌else◌}
use Rattle.script_parse.specs.declared.script.Instr.TheVariants as instr
use Rattle.script_code.specs.declared.code.Code.{Code}
use Rattle.script_code.specs.declared.code.Scope.{Scope}
use Rattle.script_code.specs.declared.code.SlotInstr.{SlotInstr}
use Rattle.script_code.specs.Resolved.{slot_instr, HasAll}
use Rattle.proc_core.specs.Flags.{runnable_flags}
use Rattle.ready_set.specs.Ready.{numbers}
use Rattle.proc_core.proofs.FlagLaws.{flags_runnable}
use Rattle.proc_core.specs.Types.{Instr}
use Rattle.run_model.specs.Core.{Process, Core, lookup}
use Rattle.run_model.specs.Schedule.{still_runs, waits_for, waits_at, is_waiting, is_runnable, runnable_from, runnable_processes, choose, pick_of, moved_x}
use Rattle.proc_core.specs.declared.machine.Machine.{Machine}
use Rattle.proc_core.specs.declared.process.SlotProcess.{SlotProcess}
use Rattle.proc_core.specs.Stands.{Holds, IsProcess, AreProcesses, IsCore}
use Rattle.proc_core.specs.inner.SlotStep.{next_slot_instr, slot_still_runs, slot_waits_for, slot_waits_at, slot_is_runnable, slot_runnable_from}
use Rattle.proc_core.proofs.Holding.{child_same}
use Rattle.proc_core.proofs.Machines.{AtSame, next_same}

module _ (codes : List Code) where
  still_same : (rs : List SlotProcess) (ps : List Process) (n : ℕ) → AreProcesses codes rs ps
      → slot_still_runs (slice_get rs n) ≡ still_runs (slice_get ps n)
  still_same [] [] n are = refl
  still_same [] (p ∷ ps) n are = absurd are
  still_same (q ∷ rs) [] n are = absurd are
  still_same (q ∷ rs) (p ∷ ps) zero are = ap is_none are.0.5.status
  still_same (q ∷ rs) (p ∷ ps) (suc n) are = still_same rs ps n are.1

  for_same : (o : Option ℕ) (rs : List SlotProcess) (ps : List Process) → AreProcesses codes rs ps
      → slot_waits_for o rs ≡ waits_for o ps
  for_same None rs ps are = refl
  for_same (Some child) rs ps are = still_same rs ps child are

module _ (codes : List Code) (s : Scope) (index : ℕ) (script : List Instr) (r : SlotProcess) (p : Process) (rs : List SlotProcess) (ps : List Process) where
  waits_same : (i : Instr) → HasAll s i → Holds s index script r p → AreProcesses codes rs ps
      → slot_waits_at (Some (slot_instr s i)) r rs ≡ waits_at i p ps
  waits_same (instr.Let to value) has h are = refl
  waits_same (instr.Calc to op left right) has h are = refl
  waits_same (instr.Glue to left right) has h are = refl
  waits_same (instr.ToInt to value) has h are = refl
  waits_same (instr.Cut before after by) has h are = refl
  waits_same (instr.Jump place) has h are = refl
  waits_same (instr.JumpIf op left right place) has h are = refl
  waits_same (instr.Print operands) has h are = refl
  waits_same (instr.Exit status) has h are = refl
  waits_same (instr.OpenPath file mode path place) has h are = refl
  waits_same (instr.ReadLine to file place) has h are = refl
  waits_same (instr.WriteLine file operands) has h are = refl
  waits_same (instr.CopyRest source target) has h are = refl
  waits_same (instr.Close file) has h are = refl
  waits_same (instr.Remove path place) has h are = refl
  waits_same (instr.Exists to path) has h are = refl
  waits_same (instr.Spawn child path arguments place) has h are = refl
  waits_same (instr.Wait to child) has h are =
      ap (λ (o : Option ℕ). slot_waits_for o rs) (child_same s index script child r p has.1 h)
      ∙ for_same codes (lookup child p.children) rs ps are
  waits_same (instr.Sql cursor text params) has h are = refl
  waits_same (instr.Fetch cursor to place) has h are = refl
  waits_same (instr.Count to cursor) has h are = refl
  waits_same (instr.Status to cursor) has h are = refl

  waiting_same : (i : Option Instr) (o : Option SlotInstr) → AtSame s i o → Holds s index script r p → AreProcesses codes rs ps
      → slot_waits_at o r rs ≡ is_waiting i p ps
  waiting_same None None at h are = refl
  waiting_same None (Some o) at h are = absurd at
  waiting_same (Some i) None at h are = absurd at
  waiting_same (Some i) (Some o) at h are = ap (λ (x : SlotInstr). slot_waits_at (Some x) r rs) at.0 ∙ waits_same i at.1 h are

module _ (codes : List Code) where
  pub runnable_one : (r : SlotProcess) (p : Process) (rs : List SlotProcess) (ps : List Process) → IsProcess codes r p → AreProcesses codes rs ps
      → slot_is_runnable codes rs r ≡ is_runnable ps p
  runnable_one r p rs ps is are =
      let waits = waiting_same codes is.2.scope is.0 is.1 r p rs ps (slice_get p.script p.place) (next_slot_instr codes (Some r)) (next_same codes r p is) is.5 are in
      λ i. is_none (is.5.status i) && not (waits i)

  runnable_same : (n : ℕ) (rs qs : List SlotProcess) (ps os : List Process) → AreProcesses codes rs ps → AreProcesses codes qs os
      → slot_runnable_from codes n rs qs ≡ runnable_from n ps os
  runnable_same n rs [] ps [] are more = refl
  runnable_same n rs [] ps (o ∷ os) are more = absurd more
  runnable_same n rs (q ∷ qs) ps [] are more = absurd more
  runnable_same n rs (q ∷ qs) ps (o ∷ os) are more =
      λ i. (if runnable_one q o rs ps more.0 are i then n ∷ runnable_same (n + 1) rs qs ps os are more.1 i else runnable_same (n + 1) rs qs ps os are more.1 i)

-- the process that the seed chooses
pub chosen_same : (m : Machine) (numbers : List ℕ) (c : Core) → IsCore m c → numbers ≡ slot_runnable_from m.codes 0 m.processes.items m.processes.items
    → pick_of m.seed m.last (moved_x m.seed m.generator) numbers ≡ choose None c
chosen_same m numbers c core is =
    let all : numbers ≡ runnable_processes c = is ∙ runnable_same m.codes 0 m.processes.items m.processes.items c.processes c.processes core.processes core.processes in
    λ i. pick_of (core.seed i) (core.last i) (moved_x (core.seed i) (core.generator i)) (all i)

-- the same by the set of those that may run
pub picked_same : (m : Machine) (c : Core) (n : ℕ) → IsCore m c → m.ready.flags ≡ runnable_flags c.processes
    → n ≡ pick_of m.seed m.last (moved_x m.seed m.generator) (numbers m.ready.flags) → n ≡ choose None c
picked_same m c n core flags is =
    let all : numbers m.ready.flags ≡ runnable_processes c = ap numbers flags ∙ flags_runnable c in
    is ∙ (λ i. pick_of (core.seed i) (core.last i) (moved_x (core.seed i) (core.generator i)) (all i))
