-- `spawn` over slots and as it is defined.
use Rattle.std.proofs.Common.{◌≡◌, ℕ, suc, ◌+◌, List, [], ◌∷◌, ◌++◌, length, map, refl, sym, ap, ◌∙◌, subst}
use Rattle.std.specs.Prelude.{Option, Some, slice_set}
use Rattle.proc_core.specs.Types.{Value, Instr}
use Rattle.run_model.specs.Core.{bind, Process, Core}
use Rattle.run_model.specs.StepProcesses.{child_of, parent_of, spawn_script}
use Rattle.script_code.specs.declared.code.Code.{Code}
use Rattle.script_code.specs.declared.code.Scope.{Scope}
use Rattle.script_code.specs.Resolved.{slot_of, HasName, IsScope}
use Rattle.script_code.proofs.SlotLists.{set_slot}
use Rattle.proc_core.specs.declared.machine.Machine.{Machine}
use Rattle.proc_core.specs.declared.process.SlotProcess.{SlotProcess}
use Rattle.proc_core.specs.Stands.{bound_value, Holds, IsProcess, AreProcesses, IsCore}
use Rattle.proc_core.specs.inner.SlotSpawn.{slot_parent, slot_with_new}
use Rattle.proc_core.proofs.AskSame.{get_before}
use Rattle.proc_core.proofs.Lookups.{lookup_bound, lookup_other}
use Rattle.proc_core.proofs.Machines.{replaced}

-- ---- one script and one process more

pub code_stays : (codes : List Code) (k : Code) (r : SlotProcess) (p : Process) → IsProcess codes r p → IsProcess (codes ++ k ∷ []) r p
code_stays codes k r p is = (is.0, is.1, is.2, get_before codes k is.2 is.0 is.3, is.4, is.5)

pub codes_stay : (codes : List Code) (k : Code) (rs : List SlotProcess) (ps : List Process) → AreProcesses codes rs ps
    → AreProcesses (codes ++ k ∷ []) rs ps
codes_stay codes k [] [] are = tt
codes_stay codes k [] (p ∷ ps) are = absurd are
codes_stay codes k (r ∷ rs) [] are = absurd are
codes_stay codes k (r ∷ rs) (p ∷ ps) are = (code_stays codes k r p are.0, codes_stay codes k rs ps are.1)

pub one_process_more : (codes : List Code) (rs : List SlotProcess) (ps : List Process) (r : SlotProcess) (p : Process) → AreProcesses codes rs ps
    → IsProcess codes r p → AreProcesses codes (rs ++ r ∷ []) (ps ++ p ∷ [])
one_process_more codes [] [] r p are is = (is, tt)
one_process_more codes [] (q ∷ ps) r p are is = absurd are
one_process_more codes (q ∷ rs) [] r p are is = absurd are
one_process_more codes (q ∷ rs) (o ∷ ps) r p are is = (are.0, one_process_more codes rs ps r p are.1 is)

pub as_many : (codes : List Code) (rs : List SlotProcess) (ps : List Process) → AreProcesses codes rs ps → length rs ≡ length ps
as_many codes [] [] are = refl
as_many codes [] (q ∷ ps) are = absurd are
as_many codes (q ∷ rs) [] are = absurd are
as_many codes (q ∷ rs) (o ∷ ps) are = ap suc (as_many codes rs ps are.1)

-- ---- the parent

module _ (s : Scope) (index : ℕ) (script : List Instr) where
  pub holds_parent : (number : ℕ) (name : List ℕ) (r : SlotProcess) (p : Process) → IsScope s → HasName s.children name
      → Holds s index script r p
      → Holds s index script (slot_parent number (slot_of s.children name) r) (parent_of number name p)
  holds_parent number name r p scope has h =
      let slot : ℕ = slot_of s.children name in
      let f : List ℕ → Option ℕ = bound_value p.children in
      let g : List ℕ → Option ℕ = bound_value (bind name number p.children) in
      let set : slice_set (map f s.children) slot (g name) ≡ map g s.children =
      set_slot f g s.children name scope.children has (λ n other. lookup_other name n number p.children other) in
      record {
        code = h.code;
        runs = h.runs;
        name = h.name;
        place = ap (λ (n : ℕ). n + 1) h.place;
        variables = h.variables;
        files = h.files;
        cursors = h.cursors;
        replied = h.replied;
        children = ap (λ (l : List (Option ℕ)). slice_set l slot (Some number)) h.children
            ∙ ap (λ (o : Option ℕ). slice_set (map f s.children) slot o) (sym (lookup_bound name number p.children)) ∙ set;
        spawned = ap (λ (n : ℕ). n + 1) h.spawned;
        printed = h.printed;
        replies = h.replies;
        status = h.status;
      }

-- ---- the machine after a child was made

-- codes: those of the machine before, also where one more was resolved
pub spawned_core : (m after : Machine) (number : ℕ) (name : List ℕ) (place : ℕ) (script : List Instr) (arguments : List Value) (path : List ℕ)
    (r child : SlotProcess) (p : Process) (c : Core) (isp : IsProcess m.codes r p) → IsCore m c → HasName isp.2.scope.children name
    → AreProcesses after.codes m.processes.items c.processes
    → IsProcess after.codes (slot_parent (length m.processes.items) (slot_of isp.2.scope.children name) r) (parent_of (length m.processes.items) name p)
    → IsProcess after.codes child (child_of p script arguments)
    → after.processes.items ≡ slot_with_new number (slot_of isp.2.scope.children name) child r m.processes.items
    → after.tree ≡ m.tree → after.seed ≡ m.seed → after.last ≡ m.last → after.generator ≡ m.generator → after.asked ≡ m.asked
    → IsCore after (spawn_script (Some script) (record { child = name; arguments = arguments; place = place }) path number p c).core
spawned_core m after number name place script arguments path r child p c isp core has are parent new items tree seed last x asked =
    let count : length m.processes.items ≡ length c.processes = as_many m.codes m.processes.items c.processes core.processes in
    let made : AreProcesses after.codes (slot_with_new number (slot_of isp.2.scope.children name) child r m.processes.items)
    (slice_set c.processes number (parent_of (length m.processes.items) name p) ++ child_of p script arguments ∷ []) =
    one_process_more after.codes (slice_set m.processes.items number (slot_parent (length m.processes.items) (slot_of isp.2.scope.children name) r))
    (slice_set c.processes number (parent_of (length m.processes.items) name p)) child (child_of p script arguments)
    (replaced after.codes m.processes.items c.processes number (slot_parent (length m.processes.items) (slot_of isp.2.scope.children name) r)
    (parent_of (length m.processes.items) name p) are parent) new in
    record {
      files = tree ∙ core.files;
      processes = subst (λ (l : List SlotProcess). AreProcesses after.codes l (slice_set c.processes number (parent_of (length c.processes) name p) ++ child_of p script arguments ∷ [])) (sym items)
          (subst (λ (n : ℕ). AreProcesses after.codes (slot_with_new number (slot_of isp.2.scope.children name) child r m.processes.items)
          (slice_set c.processes number (parent_of n name p) ++ child_of p script arguments ∷ [])) count made);
      seed = seed ∙ core.seed;
      last = last ∙ core.last;
      generator = x ∙ core.generator;
      asked = asked ∙ core.asked;
      going = core.going;
    }
