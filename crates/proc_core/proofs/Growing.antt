-- The set of processes that may run after a step, by how the step changes the processes.
use Rattle.std.proofs.Common.{◌≡◌, ℕ, suc, ◌<◌, List, [], ◌∷◌, ◌++◌, length, refl, sym, ap, ◌∙◌, subst, true, arith}
use Rattle.std.specs.Prelude.{Some, slice_get, slice_set}
use Rattle.std.proofs.lemmas.List.{length-set}
use Rattle.ready_set.specs.Ready.{ReadyView}
use Rattle.proc_core.specs.Types.{Value}
use Rattle.script_code.specs.declared.code.Code.{Code}
use Rattle.proc_core.specs.declared.machine.Machine.{Machine}
use Rattle.proc_core.specs.declared.process.SlotProcess.{SlotProcess}
use Rattle.proc_core.specs.inner.SlotReady.{Grows}
use Rattle.proc_core.specs.inner.SlotSpawn.{slot_parent, HasChild, IsNoChild}
use Rattle.proc_core.proofs.Machines.{get_some}

pub one_more : {X : Type 0} (xs : List X) (x : X) → length (xs ++ x ∷ []) ≡ suc (length xs)
one_more [] x = refl
one_more (y ∷ xs) x = ap suc (one_more xs x)

module _ (m after : Machine) (number : ℕ) where
  -- as many processes as before
  pub grows_same : length after.processes.items ≡ length m.processes.items → after.ready ≡ m.ready → after.parents ≡ m.parents
      → Grows m number after
  grows_same long ready parents = record {
    same = λ as_many. (ready, parents);
    more = λ one. absurd (omega (arith, long, one));
  }

  -- a process stands in place of another
  pub grows_kept : (f : SlotProcess → SlotProcess) → number < length m.processes.items
      → ((r : SlotProcess) → slice_get m.processes.items number ≡ Some r → after.processes.items ≡ slice_set m.processes.items number (f r))
      → after.ready ≡ m.ready → after.parents ≡ m.parents → Grows m number after
  grows_kept f within items ready parents =
      let there = get_some m.processes.items number within in
      grows_same (ap length (items there.0 there.1) ∙ length-set m.processes.items number (f there.0)) ready parents

  pub grows_no_child : (f : SlotProcess → SlotProcess) → number < length m.processes.items
      → ((r : SlotProcess) → slice_get m.processes.items number ≡ Some r → after.processes.items ≡ slice_set m.processes.items number (f r))
      → IsNoChild m after → Grows m number after
  grows_no_child f within items idle = grows_kept f within items idle.ready idle.parents

  -- a child was made, from a machine with the same processes
  pub grows_made : (more : Machine) (slot index : ℕ) (code : Code) (r : SlotProcess) (arguments : List Value)
      → HasChild more number slot index code r arguments after → more.processes.items ≡ m.processes.items
      → more.ready ≡ m.ready → more.parents ≡ m.parents → Grows m number after
  grows_made more slot index code r arguments child items ready parents =
      let long : length after.processes.items ≡ suc (length m.processes.items) =
      ap length child.items ∙ one_more (slice_set more.processes.items number (slot_parent (length more.processes.items) slot r)) child.child
      ∙ ap suc (length-set more.processes.items number (slot_parent (length more.processes.items) slot r) ∙ ap length items) in
      record {
        same = λ as_many. absurd (omega (arith, long, as_many));
        more = λ one. (
          child.ready ∙ ap (λ (set : ReadyView). set.flags ++ true ∷ []) ready,
          child.parents ∙ ap (λ (l : List ℕ). l ++ number ∷ []) parents,
        );
      }

-- the same, where only the runners are others
pub child_again : (m : Machine) (number slot index : ℕ) (code : Code) (r : SlotProcess) (arguments : List Value) (a b : Machine)
    → b ≡ record a { runners = b.runners } → HasChild m number slot index code r arguments a → HasChild m number slot index code r arguments b
child_again m number slot index code r arguments a b is h =
    subst (λ (x : Machine). HasChild m number slot index code r arguments x) (sym is) (record {
      child = h.child;
      held = h.held;
      items = h.items;
      codes = h.codes;
      ready = h.ready;
      parents = h.parents;
      others = record { tree = h.others.tree; seed = h.others.seed; last = h.others.last; generator = h.others.generator; asked = h.others.asked };
    })
