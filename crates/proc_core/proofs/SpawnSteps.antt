-- A step of a `spawn`, by the result of the machine.
use Rattle.std.proofs.Common.{◌≡◌, ℕ, List, [], ◌∷◌, ◌++◌, length, map, refl, sym, ap, ◌∙◌, subst, Bool, true, false}
use Rattle.std.specs.Prelude.{Option, Some, None, slice_get, slice_set, nat_lt, if◌then◌else◌}
use Rattle.ldv_value.specs.FileState.{FileState, content_at}
use Rattle.ldv_value.specs.Limits.{max_processes}
use Rattle.ldv_value.proofs.Lists.{append-nil}
use Rattle.script_parse.specs.Script.{script_of}
use Rattle.script_parse.specs.declared.script.Instr.TheVariants as instr
use Rattle.proc_core.specs.Types.{Value, Instr, Act, Spawned, Unspawned, Event}
use Rattle.run_model.specs.Core.{Process, Core, new_process, with_process}
use Rattle.run_model.specs.Events.{event_at}
use Rattle.run_model.specs.Step.{execute_next, local_step_of, local_step}
use Rattle.run_model.specs.StepBase.{Effect, operand_values, with_exit_status, went_to, bad_path}
use Rattle.run_model.specs.StepFiles.{path_in, path_at}
use Rattle.run_model.specs.StepProcesses.{SpawnRequest as Says, child_of, parent_of, spawn_script, spawn_file, spawn_path}
use Rattle.script_code.specs.declared.code.Code.{Code}
use Rattle.script_code.specs.declared.code.Scope.{Scope}
use Rattle.script_code.specs.declared.code.SlotInstr.{SlotInstr}
use Rattle.script_code.specs.declared.code.SlotInstr.TheVariants.{Own, OnFiles, Spawn, Wait, Sql}
use Rattle.script_code.specs.Resolved.{slot_of, HasName, slot_instr, HasAll, IsCode}
use Rattle.proc_core.specs.declared.machine.Machine.{Machine}
use Rattle.proc_core.specs.declared.process.SlotProcess.{SlotProcess}
use Rattle.proc_core.specs.declared.spawn.spawn_request.SpawnRequest.{SpawnRequest}
use Rattle.proc_core.specs.inner.Slots.{slot_ended, slot_went_to}
use Rattle.proc_core.specs.Stands.{Holds, IsProcess, AreProcesses, IsCore, AppendsEvents}
use Rattle.proc_core.specs.inner.SlotSpawn.{slot_request, slot_request_in, slot_request_at, Runs, script_in, slot_parent, slot_with_new, IsElse, IsNoChild, HasChild}
use Rattle.proc_core.specs.inner.SlotStep.{next_slot_instr, IsLocal}
use Rattle.proc_core.proofs.Holding.{value_same, values_same, holds_ended, holds_went_to}
use Rattle.proc_core.proofs.Machines.{AtSame, next_same, slot_process-at, replaced}
use Rattle.proc_core.proofs.SpawnSame.{as_many, holds_parent, spawned_core}

-- ---- what isn't a `spawn`

not_said : (o : Option SlotInstr) (r : SlotProcess) → slot_request o r ≡ None → IsLocal o
not_said None r is = tt
not_said (Some (Own o)) r is = tt
not_said (Some (OnFiles f)) r is = tt
not_said (Some (Spawn child path arguments place)) r is = absurd cc
not_said (Some (Wait to child)) r is = tt
not_said (Some (Sql cursor text params)) r is = tt

local_by : (codes : List Code) (o : Option SlotProcess) → slot_request_in codes o ≡ None → IsLocal (next_slot_instr codes o)
local_by codes None is = tt
local_by codes (Some r) is = not_said (next_slot_instr codes (Some r)) r is

pub local_at : (m : Machine) (number : ℕ) → slot_request_at m number ≡ None → IsLocal (next_slot_instr m.codes (slice_get m.processes.items number))
local_at m number is = local_by m.codes (slice_get m.processes.items number) is

-- ---- what is

module _ (s : Scope) (index : ℕ) (script : List Instr) (r : SlotProcess) (p : Process) (sp : SpawnRequest) (number : ℕ) (c : Core) where
  -- an instruction does what the `spawn` says
  abbrev pub DoesSo : Option Instr → Type 0
  DoesSo i =
      (name : List ℕ) × (sp.child ≡ slot_of s.children name) × HasName s.children name
      × (execute_next i number p c ≡ spawn_path sp.path (record { child = name; arguments = sp.arguments; place = sp.place }) number p c)

  does_so : (i : Instr) → HasAll s i → Holds s index script r p → slot_request (Some (slot_instr s i)) r ≡ Some sp → DoesSo (Some i)
  does_so (instr.Let to value) has h is = absurd cc
  does_so (instr.Calc to op left right) has h is = absurd cc
  does_so (instr.Glue to left right) has h is = absurd cc
  does_so (instr.ToInt to value) has h is = absurd cc
  does_so (instr.Cut before after by) has h is = absurd cc
  does_so (instr.Jump place) has h is = absurd cc
  does_so (instr.JumpIf op left right place) has h is = absurd cc
  does_so (instr.Print operands) has h is = absurd cc
  does_so (instr.Exit status) has h is = absurd cc
  does_so (instr.OpenPath file mode path place) has h is = absurd cc
  does_so (instr.ReadLine to file place) has h is = absurd cc
  does_so (instr.WriteLine file operands) has h is = absurd cc
  does_so (instr.CopyRest source target) has h is = absurd cc
  does_so (instr.Close file) has h is = absurd cc
  does_so (instr.Remove path place) has h is = absurd cc
  does_so (instr.Exists to path) has h is = absurd cc
  does_so (instr.Spawn child path arguments place) has h is =
      let says : slot_request (Some (slot_instr s (instr.Spawn child path arguments place))) r ≡ Some sp = is in
      let build : Option (List ℕ) → List Value → SpawnRequest = λ o vs. record { child = slot_of s.children child; path = o; arguments = vs; place = place } in
      let at : build (path_at path p) (operand_values p arguments) ≡ sp =
      (λ i. build (path_in (sym (value_same s index script path r p has.1 h) i)) (sym (values_same s index script arguments r p has.2 h) i)) ∙ only_some _ _ says in (
        child,
        ap (λ (x : SpawnRequest). x.child) (sym at),
        has.0,
        ap (λ (x : SpawnRequest). spawn_path x.path (record { child = child; arguments = x.arguments; place = x.place }) number p c) at,
      )
    where
      only_some : (x y : SpawnRequest) → Some x ≡ Some y → x ≡ y
      only_some x y same = cc
  does_so (instr.Wait to child) has h is = absurd cc
  does_so (instr.Sql cursor text params) has h is = absurd cc
  does_so (instr.Fetch cursor to place) has h is = absurd cc
  does_so (instr.Count to cursor) has h is = absurd cc
  does_so (instr.Status to cursor) has h is = absurd cc

  does_at : (i : Option Instr) (o : Option SlotInstr) → AtSame s i o → Holds s index script r p → slot_request o r ≡ Some sp → DoesSo i
  does_at None None at h is = absurd cc
  does_at None (Some o) at h is = absurd at
  does_at (Some i) None at h is = absurd at
  does_at (Some i) (Some o) at h is = does_so i at.1 h (ap (λ (x : SlotInstr). slot_request (Some x) r) (sym at.0) ∙ is)

-- what a `spawn` does, where a process says it
pub record SpawnsSo (m : Machine) (number : ℕ) (sp : SpawnRequest) (c : Core) : Type 0 where
  pub held : SlotProcess
  pub process : Process
  pub stands : IsProcess m.codes held process
  pub at_held : slice_get m.processes.items number ≡ Some held
  pub at_process : slice_get c.processes number ≡ Some process
  pub name : List ℕ
  pub slot : sp.child ≡ slot_of stands.2.scope.children name
  pub has : HasName stands.2.scope.children name
  pub does : local_step number c ≡ spawn_path sp.path (record { child = name; arguments = sp.arguments; place = sp.place }) number process c

spawns_by : (m : Machine) (number : ℕ) (sp : SpawnRequest) (c : Core) (o : Option SlotProcess) → slice_get m.processes.items number ≡ o → IsCore m c
    → slot_request_in m.codes o ≡ Some sp → SpawnsSo m number sp c
spawns_by m number sp c None is core says = absurd cc
spawns_by m number sp c (Some r) is core says =
    let there = slot_process-at m.codes m.processes.items c.processes number r core.processes is in
    let p : Process = there.0 in
    let isp : IsProcess m.codes r p = there.2 in
    let so = does_at isp.2.scope isp.0 isp.1 r p sp number c (slice_get p.script p.place) (next_slot_instr m.codes (Some r)) (next_same m.codes r p isp) isp.5 says in
    record {
      held = r;
      process = p;
      stands = isp;
      at_held = is;
      at_process = there.1;
      name = so.0;
      slot = so.1;
      has = so.2;
      does = ap (λ (q : Option Process). local_step_of q number c) there.1 ∙ so.3;
    }

pub spawns_so : (m : Machine) (number : ℕ) (sp : SpawnRequest) (c : Core) → IsCore m c → slot_request_at m number ≡ Some sp → SpawnsSo m number sp c
spawns_so m number sp c core says = spawns_by m number sp c (slice_get m.processes.items number) refl core says

-- ---- no child is made

module _ (m after : Machine) (number : ℕ) (c : Core) (core : IsCore m c) where
  -- another process stands in place of one
  pub changed_core : (r : SlotProcess) (q : Process) → IsProcess m.codes r q → after.processes.items ≡ slice_set m.processes.items number r
      → IsNoChild m after → IsCore after (with_process number q c)
  changed_core r q is items idle = record {
    files = idle.others.tree ∙ core.files;
    processes = subst (λ (l : List SlotProcess). AreProcesses after.codes l (slice_set c.processes number q)) (sym items)
        (subst (λ (k : List Code). AreProcesses k (slice_set m.processes.items number r) (slice_set c.processes number q)) (sym idle.codes)
        (replaced m.codes m.processes.items c.processes number r q core.processes is));
    seed = idle.others.seed ∙ core.seed;
    last = idle.others.last ∙ core.last;
    generator = idle.others.generator ∙ core.generator;
    asked = idle.others.asked ∙ core.asked;
    going = core.going;
  }

  ended_process : (status : ℕ) (r : SlotProcess) (p : Process) → IsProcess m.codes r p → IsProcess m.codes (slot_ended status r) (with_exit_status status p)
  ended_process status r p is = (is.0, is.1, is.2, is.3, is.4, holds_ended is.2.scope is.0 is.1 status r p is.5)

  went_process : (place : ℕ) (r : SlotProcess) (p : Process) → IsProcess m.codes r p → IsProcess m.codes (slot_went_to place r) (went_to place p)
  went_process place r p is = (is.0, is.1, is.2, is.3, is.4, holds_went_to is.2.scope is.0 is.1 place r p is.5)

  module _ (sp : SpawnRequest) (says : slot_request_at m number ≡ Some sp) where
    abbrev so : SpawnsSo m number sp c
    so = spawns_so m number sp c core says

    abbrev saying : Says
    saying = record { child = so.name; arguments = sp.arguments; place = sp.place }

    -- its path is none
    bad_does : sp.path ≡ None → local_step number c ≡ record { core = with_process number (with_exit_status bad_path so.process) c; acts = [] }
    bad_does none = so.does ∙ ap (λ (o : Option (List ℕ)). spawn_path o saying number so.process c) none

    pub bad_core : sp.path ≡ None
        → ((r : SlotProcess) → slice_get m.processes.items number ≡ Some r → after.processes.items ≡ slice_set m.processes.items number (slot_ended bad_path r))
        → IsNoChild m after → IsCore after (local_step number c).core
    bad_core none items idle =
        subst (λ (e : Effect). IsCore after e.core) (sym (bad_does none))
        (changed_core (slot_ended bad_path so.held) (with_exit_status bad_path so.process) (ended_process bad_path so.held so.process so.stands) (items so.held so.at_held) idle)

    pub bad_acts : sp.path ≡ None → [] ≡ (local_step number c).acts
    bad_acts none = ap (λ (e : Effect). e.acts) (sym (bad_does none))

    module _ (path : List ℕ) (at : sp.path ≡ Some path) where
      file_does : local_step number c ≡ spawn_file (content_at m.tree path) saying path number so.process c
      file_does =
          so.does ∙ ap (λ (o : Option (List ℕ)). spawn_path o saying number so.process c) at
          ∙ ap (λ (st : FileState). spawn_file (content_at st path) saying path number so.process c) (sym core.files)

      -- there is no file
      absent_does : content_at m.tree path ≡ None
          → local_step number c ≡ record { core = with_process number (went_to sp.place so.process) c; acts = Unspawned path false ∷ [] }
      absent_does none = file_does ∙ ap (λ (o : Option (List ℕ)). spawn_file o saying path number so.process c) none

      -- there is a file of these bytes
      bytes_does : (bytes : List ℕ) → content_at m.tree path ≡ Some bytes
          → local_step number c ≡ spawn_script (script_in m.processes.items bytes) saying path number so.process c
      bytes_does bytes is =
          file_does ∙ ap (λ (o : Option (List ℕ)). spawn_file o saying path number so.process c) is
          ∙ ap (λ (n : ℕ). spawn_script (if nat_lt n max_processes then script_of bytes else None) saying path number so.process c)
          (sym (as_many m.codes m.processes.items c.processes core.processes))

      refused_does : (bytes : List ℕ) → content_at m.tree path ≡ Some bytes → script_in m.processes.items bytes ≡ None
          → local_step number c ≡ record { core = with_process number (went_to sp.place so.process) c; acts = Unspawned path true ∷ [] }
      refused_does bytes is none = bytes_does bytes is ∙ ap (λ (o : Option (List Instr)). spawn_script o saying path number so.process c) none

      went_core : (acts : List Act) → local_step number c ≡ record { core = with_process number (went_to sp.place so.process) c; acts = acts }
          → ((r : SlotProcess) → slice_get m.processes.items number ≡ Some r → after.processes.items ≡ slice_set m.processes.items number (slot_went_to sp.place r))
          → IsNoChild m after → IsCore after (local_step number c).core
      went_core acts does items idle =
          subst (λ (e : Effect). IsCore after e.core) (sym does)
          (changed_core (slot_went_to sp.place so.held) (went_to sp.place so.process) (went_process sp.place so.held so.process so.stands) (items so.held so.at_held) idle)

      pub absent_core : content_at m.tree path ≡ None
          → ((r : SlotProcess) → slice_get m.processes.items number ≡ Some r → after.processes.items ≡ slice_set m.processes.items number (slot_went_to sp.place r))
          → IsNoChild m after → IsCore after (local_step number c).core
      absent_core none items idle = went_core (Unspawned path false ∷ []) (absent_does none) items idle

      pub absent_acts : content_at m.tree path ≡ None → Unspawned path false ∷ [] ≡ (local_step number c).acts
      absent_acts none = ap (λ (e : Effect). e.acts) (sym (absent_does none))

      pub refused_core : (bytes : List ℕ) → content_at m.tree path ≡ Some bytes → script_in m.processes.items bytes ≡ None
          → ((r : SlotProcess) → slice_get m.processes.items number ≡ Some r → after.processes.items ≡ slice_set m.processes.items number (slot_went_to sp.place r))
          → IsNoChild m after → IsCore after (local_step number c).core
      refused_core bytes is none items idle = went_core (Unspawned path true ∷ []) (refused_does bytes is none) items idle

      pub refused_acts : (bytes : List ℕ) → content_at m.tree path ≡ Some bytes → script_in m.processes.items bytes ≡ None
          → Unspawned path true ∷ [] ≡ (local_step number c).acts
      refused_acts bytes is none = ap (λ (e : Effect). e.acts) (sym (refused_does bytes is none))

      -- ---- a child is made

      made_does : (bytes : List ℕ) (script : List Instr) → content_at m.tree path ≡ Some bytes
          → nat_lt (length m.processes.items) max_processes ≡ true → script_of bytes ≡ Some script
          → local_step number c ≡ spawn_script (Some script) saying path number so.process c
      made_does bytes script is room reads =
          bytes_does bytes is
          ∙ ap (λ (b : Bool). spawn_script (if b then script_of bytes else None) saying path number so.process c) room
          ∙ ap (λ (o : Option (List Instr)). spawn_script o saying path number so.process c) reads

      pub made_acts : (bytes : List ℕ) (script : List Instr) → content_at m.tree path ≡ Some bytes
          → nat_lt (length m.processes.items) max_processes ≡ true → script_of bytes ≡ Some script
          → Spawned path ∷ [] ≡ (local_step number c).acts
      made_acts bytes script is room reads = ap (λ (e : Effect). e.acts) (sym (made_does bytes script is room reads))

      -- from a machine with the same processes, whose scripts have one more or are the same
      pub made_core : (more : Machine) (index : ℕ) (code : Code) (bytes : List ℕ) (script : List Instr) → content_at m.tree path ≡ Some bytes
          → nat_lt (length m.processes.items) max_processes ≡ true → script_of bytes ≡ Some script → IsCode code script
          → slice_get more.codes index ≡ Some code → more.processes.items ≡ m.processes.items → IsElse m more
          → ((r : SlotProcess) (p : Process) → IsProcess m.codes r p → IsProcess more.codes r p)
          → AreProcesses more.codes m.processes.items c.processes
          → ((r : SlotProcess) (k : Code) → slice_get more.processes.items number ≡ Some r → slice_get more.codes index ≡ Some k
          → HasChild more number sp.child index k r sp.arguments after)
          → IsCore after (local_step number c).core
      made_core more index code bytes script is room reads coded at items rest stays are makes =
          let there : slice_get more.processes.items number ≡ Some so.held = ap (λ (l : List SlotProcess). slice_get l number) items ∙ so.at_held in
          let made : HasChild more number sp.child index code so.held sp.arguments after = makes so.held code there at in
          let isp : IsProcess m.codes so.held so.process = so.stands in
          let parent : IsProcess m.codes (slot_parent (length m.processes.items) (slot_of isp.2.scope.children so.name) so.held) (parent_of (length m.processes.items) so.name so.process) =
          (isp.0, isp.1, isp.2, isp.3, isp.4, holds_parent isp.2.scope isp.0 isp.1 (length m.processes.items) so.name so.held so.process isp.4.scope so.has isp.5) in
          let named : Process = new_process (so.held.name ++ so.held.spawned ∷ []) script sp.arguments in
          let child : IsProcess more.codes made.child (child_of so.process script sp.arguments) = (
            index,
            script,
            code,
            at,
            coded,
            subst (λ (q : Process). Holds code.scope index script made.child q)
                (λ i. new_process (isp.5.name i ++ isp.5.spawned i ∷ []) script sp.arguments) (made.held script),
          ) in
          let by_codes : (l : List Code) → l ≡ more.codes → (AreProcesses l m.processes.items c.processes)
          × (IsProcess l (slot_parent (length m.processes.items) (slot_of isp.2.scope.children so.name) so.held) (parent_of (length m.processes.items) so.name so.process))
          × (IsProcess l made.child (child_of so.process script sp.arguments)) =
          λ l same_codes. subst (λ (k : List Code). (AreProcesses k m.processes.items c.processes)
          × (IsProcess k (slot_parent (length m.processes.items) (slot_of isp.2.scope.children so.name) so.held) (parent_of (length m.processes.items) so.name so.process))
          × (IsProcess k made.child (child_of so.process script sp.arguments))) (sym same_codes) (are, stays _ _ parent, child) in
          let all = by_codes after.codes made.codes in
          subst (λ (e : Effect). IsCore after e.core) (sym (made_does bytes script is room reads))
          (spawned_core m after number so.name sp.place script sp.arguments path so.held made.child so.process c isp core so.has all.0 all.1 all.2
          (made.items ∙ (λ i. slot_with_new number (so.slot i) made.child so.held (items i)))
          (made.others.tree ∙ rest.tree) (made.others.seed ∙ rest.seed) (made.others.last ∙ rest.last) (made.others.generator ∙ rest.generator) (made.others.asked ∙ rest.asked))

  -- a script that a process runs
  pub runs_code : (bytes : List ℕ) (index : ℕ) → (runs : Runs m.codes m.processes.items bytes index)
      → (script : List Instr) × (script_of bytes ≡ Some script) × IsCode runs.2 script
  runs_code bytes index runs =
      let there = slot_process-at m.codes m.processes.items c.processes runs.0 runs.1 core.processes runs.3 in
      let isp : IsProcess m.codes runs.1 there.0 = there.2 in
      let numbers : isp.0 ≡ index = sym isp.5.code ∙ runs.4 in
      let both : Some isp.2 ≡ Some runs.2 = sym isp.3 ∙ ap (λ (k : ℕ). slice_get m.codes k) numbers ∙ runs.5 in
      let same : isp.2 ≡ runs.2 = one isp.2 runs.2 both in
      let coded : IsCode runs.2 isp.1 = subst (λ (k : Code). IsCode k isp.1) same isp.4 in
      (isp.1, ap script_of (sym runs.6) ∙ coded.source, coded)
    where
      one : (a b : Code) → Some a ≡ Some b → a ≡ b
      one a b both = cc

pub nothing_else : (m : Machine) → IsElse m m
nothing_else m = record { tree = refl; seed = refl; last = refl; generator = refl; asked = refl }

-- what was told of a step
pub told_by : (keeps : Bool) (old new : List Event) (step number : ℕ) (acts due : List Act) → acts ≡ due
    → AppendsEvents keeps old new (map (event_at step number) acts) → AppendsEvents keeps old new (map (event_at step number) due)
told_by keeps old new step number acts due same told = subst (λ (l : List Act). AppendsEvents keeps old new (map (event_at step number) l)) same told

-- nothing was
pub told_nothing : (keeps : Bool) (old : List Event) (step number : ℕ) → AppendsEvents keeps old old (map (event_at step number) [])
told_nothing keeps old step number = λ on. sym (append-nil old)
