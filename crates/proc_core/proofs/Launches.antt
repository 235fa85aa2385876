-- A step of a `spawn` that makes a child: of a script that a process runs already, or of another.
use Rattle.std.proofs.Common.{◌≡◌, ℕ, ◌<◌, List, [], ◌∷◌, ◌++◌, length, refl, sym, ◌∙◌, subst, true}
use Rattle.std.specs.Prelude.{Some, slice_get, nat_lt}
use Rattle.ldv_value.specs.FileState.{content_at}
use Rattle.ldv_value.specs.Limits.{max_processes}
use Rattle.script_parse.specs.Script.{script_of}
use Rattle.proc_core.specs.Types.{Instr, Spawned}
use Rattle.run_model.specs.Core.{Core}
use Rattle.run_model.specs.Step.{local_step}
use Rattle.script_code.specs.declared.code.Code.{Code}
use Rattle.script_code.specs.Resolved.{IsCode}
use Rattle.proc_core.specs.declared.machine.Machine.{Machine}
use Rattle.proc_core.specs.declared.process.SlotProcess.{SlotProcess}
use Rattle.proc_core.specs.declared.spawn.spawn_request.SpawnRequest.{SpawnRequest}
use Rattle.proc_core.specs.inner.SlotReady.{Grows}
use Rattle.proc_core.specs.inner.SlotSpawn.{slot_request_at, Runs, IsElse, HasChild}
use Rattle.proc_core.specs.Stands.{IsCore}
use Rattle.proc_core.proofs.AskSame.{get_last}
use Rattle.proc_core.proofs.Growing.{grows_made}
use Rattle.proc_core.proofs.Machines.{get_some}
use Rattle.proc_core.proofs.SpawnSame.{code_stays, codes_stay}
use Rattle.proc_core.proofs.SpawnSteps.{made_core, made_acts, runs_code, nothing_else}

one_code : (a b : Code) → Some a ≡ Some b → a ≡ b
one_code a b both = cc

-- the machine with one resolved script more
abbrev pub with_code : Machine → Code → Machine
with_code m code = record m { codes = m.codes ++ code ∷ [] }

else_same : (m : Machine) (code : Code) → IsElse m (with_code m code)
else_same m code = record { tree = refl; seed = refl; last = refl; generator = refl; asked = refl }

module _ (m after : Machine) (number : ℕ) (sp : SpawnRequest) (says : slot_request_at m number ≡ Some sp) (path : List ℕ) (at : sp.path ≡ Some path)
    (bytes : List ℕ) (is : content_at m.tree path ≡ Some bytes) (room : nat_lt (length m.processes.items) max_processes ≡ true) where
  module _ (index : ℕ) (runs : Runs m.codes m.processes.items bytes index) where
    pub known_core : (c : Core) → IsCore m c
        → ((r : SlotProcess) (k : Code) → slice_get m.processes.items number ≡ Some r → slice_get m.codes index ≡ Some k
        → HasChild m number sp.child index k r sp.arguments after)
        → IsCore after (local_step number c).core
    known_core c core makes =
        let coded = runs_code m after number c core bytes index runs in
        made_core m after number c core sp says path at m index runs.2 bytes coded.0 is room coded.1 coded.2 runs.5 refl (nothing_else m)
        (λ r p there. there) core.processes makes

    pub known_acts : (c : Core) → IsCore m c → Spawned path ∷ [] ≡ (local_step number c).acts
    known_acts c core =
        let coded = runs_code m after number c core bytes index runs in
        made_acts m after number c core sp says path at bytes coded.0 is room coded.1

    pub known_grows : number < length m.processes.items
        → ((r : SlotProcess) (k : Code) → slice_get m.processes.items number ≡ Some r → slice_get m.codes index ≡ Some k
        → HasChild m number sp.child index k r sp.arguments after)
        → Grows m number after
    known_grows within makes =
        let there = get_some m.processes.items number within in
        grows_made m after number m sp.child index runs.2 there.0 sp.arguments (makes there.0 runs.2 there.1 runs.5) refl refl refl

  module _ (code : Code) (script : List Instr) (reads : script_of bytes ≡ Some script) (coded : IsCode code script)
      (makes : (r : SlotProcess) → slice_get m.processes.items number ≡ Some r
      → HasChild (with_code m code) number sp.child (length m.codes) code r sp.arguments after) where
    makes_any : (r : SlotProcess) (k : Code) → slice_get m.processes.items number ≡ Some r → slice_get (with_code m code).codes (length m.codes) ≡ Some k
        → HasChild (with_code m code) number sp.child (length m.codes) k r sp.arguments after
    makes_any r k here there =
        let both : Some code ≡ Some k = sym (get_last m.codes code) ∙ there in
        subst (λ (x : Code). HasChild (with_code m code) number sp.child (length m.codes) x r sp.arguments after) (one_code code k both) (makes r here)

    pub new_core : (c : Core) → IsCore m c → IsCore after (local_step number c).core
    new_core c core =
        made_core m after number c core sp says path at (with_code m code) (length m.codes) code bytes script is room reads coded (get_last m.codes code) refl
        (else_same m code) (code_stays m.codes code) (codes_stay m.codes code m.processes.items c.processes core.processes) makes_any

    pub new_acts : (c : Core) → IsCore m c → Spawned path ∷ [] ≡ (local_step number c).acts
    new_acts c core = made_acts m after number c core sp says path at bytes script is room reads

    pub new_grows : number < length m.processes.items → Grows m number after
    new_grows within =
        let there = get_some m.processes.items number within in
        grows_made m after number (with_code m code) sp.child (length m.codes) code there.0 sp.arguments (makes there.0 there.1) refl refl refl
