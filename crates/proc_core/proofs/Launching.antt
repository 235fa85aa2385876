-- A child is made, as code makes it.
use Rattle.std.proofs.Common.{◌≡◌, ℕ, List, length, sym, subst}
use Rattle.std.specs.Prelude.{Some, slice_get}
use Rattle.proc_core.specs.Types.{Value, Instr}
use Rattle.run_model.specs.Core.{new_process}
use Rattle.script_code.specs.declared.code.Code.{Code}
use Rattle.proc_core.specs.declared.machine.Machine.{Machine}
use Rattle.proc_core.specs.declared.process.SlotProcess.{SlotProcess}
use Rattle.proc_core.specs.inner.Counts.{CountsBelow}
use Rattle.proc_core.specs.Stands.{Holds}
use Rattle.proc_core.specs.inner.SlotSpawn.{HasChild}
use Rattle.proc_core.proofs.AskSame.{get_last}
use Rattle.proc_core.proofs.Launches.{with_code}

-- the same, for equal scripts, names and arguments
pub holds_so : (index : ℕ) (k code : Code) (script : List Instr) (child : SlotProcess) (name due : List ℕ) (vs arguments : List Value)
    → k ≡ code → name ≡ due → vs ≡ arguments → Holds k.scope index script child (new_process name script vs)
    → Holds code.scope index script child (new_process due script arguments)
holds_so index k code script child name due vs arguments same named given holds =
    subst (λ (x : Code × List ℕ × List Value). Holds x.0.scope index script child (new_process x.1 script x.2)) (λ i. (same i, named i, given i)) holds

-- of a script that was resolved last
pub launched_new : (m more after : Machine) (number slot index : ℕ) (code : Code) (arguments : List Value) → more ≡ with_code m code → index ≡ length m.codes
    → ((r : SlotProcess) (k : Code) → slice_get more.processes.items number ≡ Some r → slice_get more.codes index ≡ Some k
    → HasChild more number slot index k r arguments after)
    → (r : SlotProcess) → slice_get m.processes.items number ≡ Some r
    → HasChild (with_code m code) number slot (length m.codes) code r arguments after
launched_new m more after number slot index code arguments is at makes r there =
    let all = subst (λ (x : Machine × ℕ). (r : SlotProcess) (k : Code) → slice_get x.0.processes.items number ≡ Some r → slice_get x.0.codes x.1 ≡ Some k
    → HasChild x.0 number slot x.1 k r arguments after) (λ i. (is i, at i)) makes in
    all r code there (get_last m.codes code)

-- with one resolved script more no more is counted
pub counted_coded : (m more : Machine) (code : Code) (n : ℕ) → more ≡ with_code m code → CountsBelow n m → CountsBelow n more
counted_coded m more code n is counted =
    subst (CountsBelow n) (sym is) (record { all = counted.all; each = counted.each; flags = counted.flags })
