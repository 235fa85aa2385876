-- Steps of a machine, over slots and as they are defined.
use Rattle.std.proofs.Common.{◌≡◌, ℕ, zero, suc, List, [], ◌∷◌, ◌++◌, length, map, refl, sym, ap, ◌∙◌, subst, Bool, ◌<◌, arith, append_assoc}
use Rattle.std.specs.Prelude.{Option, Some, None, pos, slice_get, slice_set, option_and_then}
use Rattle.std.proofs.lemmas.List.{map-append}
use Rattle.ldv_value.proofs.Lists.{append-nil}
use Rattle.script_parse.specs.declared.script.Instr.TheVariants as instr
use Rattle.proc_core.specs.Types.{Value, Int, Instr, Act, Event}
use Rattle.run_model.specs.Events.{event_at}
use Rattle.run_model.specs.Core.{Process, Core, lookup}
use Rattle.run_model.specs.Step.{execute, execute_next, local_step_of, local_step, ends_at, end_acts, status_acts}
use Rattle.run_model.specs.StepBase.{with_exit_status, went_on, with_variable, Effect, FileEffect, on_files, wrong_kind}
use Rattle.run_model.specs.StepFiles.{path_at, allows_read, open_for, open_path, read_next, write_line, copy_rest, close, remove_path, test_path}
use Rattle.run_model.specs.StepReplies.{fetch, count, status}
use Rattle.run_model.specs.StepProcesses.{status_in, wait_until, wait_for}
use Rattle.ldv_value.specs.FileState.{FileState}
use Rattle.script_code.specs.declared.code.Code.{Code}
use Rattle.script_code.specs.declared.code.Scope.{Scope}
use Rattle.script_code.specs.declared.code.SlotInstr.{SlotInstr}
use Rattle.script_code.specs.declared.code.SlotInstr.TheVariants.{Wait}
use Rattle.script_code.specs.Resolved.{slot_of, HasName, Resolves, ResolvesAll, slot_instr, HasAll, IsScope}
use Rattle.proc_core.specs.declared.machine.Machine.{Machine}
use Rattle.proc_core.specs.declared.process.SlotProcess.{SlotProcess}
use Rattle.proc_core.specs.inner.Slots.{child_at, slot_ended, slot_with_variable}
use Rattle.proc_core.specs.Stands.{Holds, IsProcess, AreProcesses, IsCore, AppendsEvents}
use Rattle.proc_core.specs.inner.SlotFiles.{SlotEffect}
use Rattle.proc_core.specs.inner.SlotStep.{slotted_at, next_slot_instr, slot_status_in, slot_wait_until, slot_wait_for, slot_effect, IsLocal}
use Rattle.proc_core.proofs.Holding.{holds_ended, holds_went_on, holds_variable, child_same}
use Rattle.proc_core.proofs.ReplySame.{close_same, fetch_same, count_same, status_same as reply_status_same}
use Rattle.proc_core.proofs.FileSame.{SameEffect, open_path_effect, read_line_effect, write_line_effect, copy_effect, remove_effect, exists_effect}
use Rattle.proc_core.proofs.OwnSame.{let_same, calc_same, glue_same, number_same, cut_same, jump_same, jump_if_same, print_same, exit_same}

-- ---- processes by their number

module _ (codes : List Code) where
  -- what is there by slots is there
  pub slot_process-at : (rs : List SlotProcess) (ps : List Process) (n : ℕ) (r : SlotProcess) → AreProcesses codes rs ps
      → slice_get rs n ≡ Some r → (p : Process) × (slice_get ps n ≡ Some p) × IsProcess codes r p
  slot_process-at [] [] n r are is = absurd cc
  slot_process-at [] (p ∷ ps) n r are is = absurd are
  slot_process-at (q ∷ rs) [] n r are is = absurd are
  slot_process-at (q ∷ rs) (p ∷ ps) zero r are is =
      let same : q ≡ r = cc in
      (p, refl, subst (λ (x : SlotProcess). IsProcess codes x p) same are.0)
  slot_process-at (q ∷ rs) (p ∷ ps) (suc n) r are is = slot_process-at rs ps n r are.1 is

  pub not_found : (rs : List SlotProcess) (ps : List Process) (n : ℕ) → AreProcesses codes rs ps
      → slice_get rs n ≡ None → slice_get ps n ≡ None
  not_found [] [] n are is = refl
  not_found [] (p ∷ ps) n are is = absurd are
  not_found (q ∷ rs) [] n are is = absurd are
  not_found (q ∷ rs) (p ∷ ps) zero are is = absurd cc
  not_found (q ∷ rs) (p ∷ ps) (suc n) are is = not_found rs ps n are.1 is

  pub replaced : (rs : List SlotProcess) (ps : List Process) (n : ℕ) (r : SlotProcess) (p : Process) → AreProcesses codes rs ps
      → IsProcess codes r p → AreProcesses codes (slice_set rs n r) (slice_set ps n p)
  replaced [] [] n r p are is = tt
  replaced [] (q ∷ ps) n r p are is = absurd are
  replaced (q ∷ rs) [] n r p are is = absurd are
  replaced (q ∷ rs) (o ∷ ps) zero r p are is = (is, are.1)
  replaced (q ∷ rs) (o ∷ ps) (suc n) r p are is = (are.0, replaced rs ps n r p are.1 is)

  pub status_same : (rs : List SlotProcess) (ps : List Process) (n : ℕ) → AreProcesses codes rs ps → slot_status_in rs n ≡ status_in ps n
  status_same [] [] n are = refl
  status_same [] (p ∷ ps) n are = absurd are
  status_same (q ∷ rs) [] n are = absurd are
  status_same (q ∷ rs) (p ∷ ps) zero are = are.0.5.status
  status_same (q ∷ rs) (p ∷ ps) (suc n) are = status_same rs ps n are.1

-- what is there, put there
pub set_itself : {X : Type 0} (xs : List X) (n : ℕ) (x : X) → slice_get xs n ≡ Some x → slice_set xs n x ≡ xs
set_itself [] n x is = refl
set_itself {X} (y ∷ ys) zero x is = let same : x ≡ y = cc in ap (λ (z : X). z ∷ ys) same
set_itself {X} (y ∷ ys) (suc n) x is = ap (λ (l : List X). y ∷ l) (set_itself ys n x is)

-- ---- instructions by their place

-- at one place of a script and of its resolved form
abbrev pub AtSame : Scope → Option Instr → Option SlotInstr → Type 0
AtSame s None None = Unit {0}
AtSame s None (Some o) = ⊥
AtSame s (Some i) None = ⊥
AtSame s (Some i) (Some o) = Resolves s i o

pub resolved_at : (s : Scope) (is : List Instr) (os : List SlotInstr) (n : ℕ) → ResolvesAll s is os
    → AtSame s (slice_get is n) (slice_get os n)
resolved_at s [] [] n all = tt
resolved_at s [] (o ∷ os) n all = absurd all
resolved_at s (i ∷ is) [] n all = absurd all
resolved_at s (i ∷ is) (o ∷ os) zero all = all.0
resolved_at s (i ∷ is) (o ∷ os) (suc n) all = resolved_at s is os n all.1

-- the next instruction of a process
pub next_same : (codes : List Code) (r : SlotProcess) (p : Process) (is : IsProcess codes r p)
    → AtSame is.2.scope (slice_get p.script p.place) (next_slot_instr codes (Some r))
next_same codes r p is =
    let h : Holds is.2.scope is.0 is.1 r p = is.5 in
    let code : slice_get codes r.code ≡ Some is.2 = ap (λ (k : ℕ). slice_get codes k) h.code ∙ is.3 in
    let by_place : AtSame is.2.scope (slice_get is.1 r.place) (slice_get is.2.instructions r.place) = resolved_at is.2.scope is.1 is.2.instructions r.place is.4.instructions in
    let same : slotted_at (Some is.2) r.place ≡ next_slot_instr codes (Some r) = ap (λ (o : Option Code). slotted_at o r.place) (sym code) in
    let there : AtSame is.2.scope (slice_get p.script p.place) (slice_get is.2.instructions r.place) = subst (λ (o : Option Instr). AtSame is.2.scope o (slice_get is.2.instructions r.place)) (λ j. slice_get (sym h.runs j) (h.place j)) by_place in
    subst (AtSame is.2.scope (slice_get p.script p.place)) same there

-- ---- steps that ask nothing

module _ (s : Scope) (index : ℕ) (script : List Instr) (number : ℕ) (codes : List Code) (rs : List SlotProcess) (r : SlotProcess) (p : Process) (c : Core) where
  abbrev pub EffectSame : Option SlotInstr → Option Instr → Type 0
  EffectSame o i =
      (q : Process)
      × (execute_next i number p c ≡ on_files number (record { process = q; files = (slot_effect o rs r c.files).files; acts = (slot_effect o rs r c.files).acts }) c)
      × Holds s index script (slot_effect o rs r c.files).process q

  file_path : {x : SlotEffect} {e : FileEffect} → SameEffect s index script x e
      → on_files number e c ≡ on_files number (record { process = e.process; files = x.files; acts = x.acts }) c
  file_path {e = e} same = λ j. on_files number (record { process = e.process; files = sym same.files j; acts = sym same.acts j }) c

  wait_until_same : (status : Option ℕ) (child : ℕ) (to : List ℕ) (i : Instr) (o : SlotInstr) → IsScope s → HasName s.variables to
      → slice_get c.processes number ≡ Some p → execute i number p c ≡ wait_until status child to number p c
      → slot_effect (Some o) rs r c.files ≡ slot_wait_until status child (slot_of s.variables to) r c.files
      → Holds s index script r p → EffectSame (Some o) (Some i)
  wait_until_same None child to i o scope has at is effect h =
      let stays : record { core = c; acts = [] } ≡ on_files number (record { process = p; files = c.files; acts = [] }) c =
      λ j. record { core = record c { processes = sym (set_itself c.processes number p at) j }; acts = [] } in (
        p,
        is ∙ stays ∙ (λ j. on_files number (record { process = p; files = (sym effect j).files; acts = (sym effect j).acts }) c),
        subst (λ (e : SlotEffect). Holds s index script e.process p) (sym effect) h,
      )
  wait_until_same (Some status) child to i o scope has at is effect h =
      let v : Value = Int (pos status) in
      let q : Process = went_on (with_variable to v p) in (
        q,
        is ∙ (λ j. on_files number (record { process = q; files = (sym effect j).files; acts = (sym effect j).acts }) c),
        subst (λ (e : SlotEffect). Holds s index script e.process q) (sym effect)
            (holds_went_on s index script (slot_with_variable (slot_of s.variables to) v r) (with_variable to v p)
            (holds_variable s index script to v r p scope has h)),
      )

  wait_for_same : (o : Option ℕ) (to child : List ℕ) → IsScope s → HasName s.variables to
      → slice_get c.processes number ≡ Some p → AreProcesses codes rs c.processes
      → lookup child p.children ≡ o → child_at (slot_of s.children child) r ≡ o
      → Holds s index script r p → EffectSame (Some (Wait (slot_of s.variables to) (slot_of s.children child))) (Some (instr.Wait to child))
  wait_for_same None to child scope has at are is found h =
      let effect : slot_effect (Some (Wait (slot_of s.variables to) (slot_of s.children child))) rs r c.files ≡ record { process = slot_ended wrong_kind r; files = c.files; acts = [] } =
      ap (λ (k : Option ℕ). slot_wait_for k (slot_of s.variables to) rs r c.files) found in (
        with_exit_status wrong_kind p,
        ap (λ (k : Option ℕ). wait_for k to number p c) is
            ∙ (λ j. on_files number (record { process = with_exit_status wrong_kind p; files = (sym effect j).files; acts = (sym effect j).acts }) c),
        subst (λ (e : SlotEffect). Holds s index script e.process (with_exit_status wrong_kind p)) (sym effect) (holds_ended s index script wrong_kind r p h),
      )
  wait_for_same (Some k) to child scope has at are is found h =
      wait_until_same (status_in c.processes k) k to (instr.Wait to child) (Wait (slot_of s.variables to) (slot_of s.children child)) scope has at
      (ap (λ (o : Option ℕ). wait_for o to number p c) is)
      (ap (λ (o : Option ℕ). slot_wait_for o (slot_of s.variables to) rs r c.files) found
      ∙ ap (λ (o : Option ℕ). slot_wait_until o k (slot_of s.variables to) r c.files) (status_same codes rs c.processes k are))
      h

  effect_same : (i : Instr) → IsScope s → HasAll s i → IsLocal (Some (slot_instr s i)) → Holds s index script r p
      → slice_get c.processes number ≡ Some p → AreProcesses codes rs c.processes → EffectSame (Some (slot_instr s i)) (Some i)
  effect_same (instr.Let to value) scope has local h at are = let same = let_same s index script to value r p scope has.0 has.1 h in (same.0, same.1 number c, same.3)
  effect_same (instr.Calc to op left right) scope has local h at are = let same = calc_same s index script to op left right r p scope has.0 has.1 has.2 h in (same.0, same.1 number c, same.3)
  effect_same (instr.Glue to left right) scope has local h at are = let same = glue_same s index script to left right r p scope has.0 has.1 has.2 h in (same.0, same.1 number c, same.3)
  effect_same (instr.ToInt to value) scope has local h at are = let same = number_same s index script to value r p scope has.0 has.1 h in (same.0, same.1 number c, same.3)
  effect_same (instr.Cut before after by) scope has local h at are = let same = cut_same s index script before after by r p scope has.0 has.1 has.2 h in (same.0, same.1 number c, same.3)
  effect_same (instr.Jump place) scope has local h at are = let same = jump_same s index script place r p h in (same.0, same.1 number c, same.3)
  effect_same (instr.JumpIf op left right place) scope has local h at are = let same = jump_if_same s index script op left right place r p has.0 has.1 h in (same.0, same.1 number c, same.3)
  effect_same (instr.Print operands) scope has local h at are = let same = print_same s index script operands r p has h in (same.0, same.1 number c, same.3)
  effect_same (instr.Exit status) scope has local h at are = let same = exit_same s index script status r p has h in (same.0, same.1 number c, same.3)
  effect_same (instr.OpenPath file mode path place) scope has local h at are = let same = open_path_effect s index script file mode path place r p c.files scope has.0 has.1 h in ((open_path file mode (path_at path p) place p c.files).process, file_path same, same.process)
  effect_same (instr.ReadLine to file place) scope has local h at are = let same = read_line_effect s index script to file place r p c.files scope has.0 has.1 h in ((read_next (open_for allows_read file p) to file place p c.files).process, file_path same, same.process)
  effect_same (instr.WriteLine file operands) scope has local h at are = let same = write_line_effect s index script file operands r p c.files has.0 has.1 h in ((write_line file operands p c.files).process, file_path same, same.process)
  effect_same (instr.CopyRest source target) scope has local h at are = let same = copy_effect s index script source target r p c.files scope has.0 has.1 h in ((copy_rest source target p c.files).process, file_path same, same.process)
  effect_same (instr.Close file) scope has local h at are = (close file p, refl, close_same s index script file r p scope has h)
  effect_same (instr.Remove path place) scope has local h at are = let same = remove_effect s index script path place r p c.files has h in ((remove_path (path_at path p) place p c.files).process, file_path same, same.process)
  effect_same (instr.Exists to path) scope has local h at are = let same = exists_effect s index script to path r p c.files scope has.0 has.1 h in ((test_path to (path_at path p) p c.files).process, file_path same, same.process)
  effect_same (instr.Spawn child path arguments place) scope has local h at are = absurd local
  effect_same (instr.Wait to child) scope has local h at are = wait_for_same (lookup child p.children) to child scope has.0 at are refl (child_same s index script child r p has.1 h) h
  effect_same (instr.Sql cursor text params) scope has local h at are = (with_exit_status wrong_kind p, refl, holds_ended s index script wrong_kind r p h)
  effect_same (instr.Fetch cursor to place) scope has local h at are = (fetch cursor to place p, refl, fetch_same s index script cursor to place r p scope has.0 has.1 h)
  effect_same (instr.Count to cursor) scope has local h at are = (count to cursor p, refl, count_same s index script to cursor r p scope has.0 has.1 h)
  effect_same (instr.Status to cursor) scope has local h at are = (status to cursor p, refl, reply_status_same s index script to cursor r p scope has.0 has.1 h)

  effect_at : (i : Option Instr) (o : Option SlotInstr) → AtSame s i o → IsScope s → IsLocal o → Holds s index script r p
      → slice_get c.processes number ≡ Some p → AreProcesses codes rs c.processes → EffectSame o i
  effect_at None None at scope local h there are = (with_exit_status 0 p, refl, holds_ended s index script 0 r p h)
  effect_at None (Some o) at scope local h there are = absurd at
  effect_at (Some i) None at scope local h there are = absurd at
  effect_at (Some i) (Some o) at scope local h there are =
      subst (λ (x : SlotInstr). EffectSame (Some x) (Some i)) (sym at.0)
      (effect_same i scope at.1 (subst (λ (x : SlotInstr). IsLocal (Some x)) at.0 local) h there are)

abbrev pub effect_of : Machine → SlotProcess → SlotEffect
effect_of m r = slot_effect (next_slot_instr m.codes (Some r)) m.processes.items r m.tree

abbrev pub effect_with : Machine → SlotProcess → FileState → SlotEffect
effect_with m r st = slot_effect (next_slot_instr m.codes (Some r)) m.processes.items r st

abbrev pub QuietWith : Machine → ℕ → SlotProcess → Core → FileState → Type 0
QuietWith m number r c st =
    (q : Process)
    × (local_step number c ≡ on_files number (record { process = q; files = (effect_with m r st).files; acts = (effect_with m r st).acts }) c)
    × IsProcess m.codes (effect_with m r st).process q

abbrev pub QuietSame : Machine → ℕ → SlotProcess → Core → Type 0
QuietSame m number r c = QuietWith m number r c m.tree

pub quiet_same : (m : Machine) (number : ℕ) (r : SlotProcess) (c : Core) → IsCore m c → slice_get m.processes.items number ≡ Some r
    → IsLocal (next_slot_instr m.codes (Some r)) → QuietSame m number r c
quiet_same m number r c core is local =
    let there = slot_process-at m.codes m.processes.items c.processes number r core.processes is in
    let p : Process = there.0 in
    let isp : IsProcess m.codes r p = there.2 in
    let e = effect_at isp.2.scope isp.0 isp.1 number m.codes m.processes.items r p c (slice_get p.script p.place) (next_slot_instr m.codes (Some r)) (next_same m.codes r p isp) isp.4.scope local isp.5 there.1 core.processes in
    let by_files : QuietWith m number r c c.files = (e.0, ap (λ (o : Option Process). local_step_of o number c) there.1 ∙ e.1, (isp.0, isp.1, isp.2, isp.3, isp.4, e.2)) in
    subst (QuietWith m number r c) (sym core.files) by_files

-- the machine after the step
pub kept_core : (m after : Machine) (number : ℕ) (r : SlotProcess) (c : Core) → IsCore m c → slice_get m.processes.items number ≡ Some r
    → QuietSame m number r c → after.codes ≡ m.codes → after.processes.items ≡ slice_set m.processes.items number (effect_of m r).process
    → after.tree ≡ (effect_of m r).files → after.seed ≡ m.seed → after.last ≡ m.last → after.generator ≡ m.generator → after.asked ≡ m.asked
    → IsCore after (local_step number c).core
kept_core m after number r c core is same codes processes tree seed last x asked =
    let all : AreProcesses m.codes (slice_set m.processes.items number (effect_of m r).process) (slice_set c.processes number same.0) = replaced m.codes m.processes.items c.processes number (effect_of m r).process same.0 core.processes same.2 in
    let here : IsCore after (on_files number (record { process = same.0; files = (effect_of m r).files; acts = (effect_of m r).acts }) c).core = record {
      files = tree;
      processes = subst (λ (l : List SlotProcess). AreProcesses after.codes l (slice_set c.processes number same.0)) (sym processes) (subst (λ (k : List Code). AreProcesses k (slice_set m.processes.items number (effect_of m r).process) (slice_set c.processes number same.0)) (sym codes) all);
      seed = seed ∙ core.seed;
      last = last ∙ core.last;
      generator = x ∙ core.generator;
      asked = asked ∙ core.asked;
      going = core.going;
    } in
    subst (λ (e : Effect). IsCore after e.core) (sym same.1) here

pub kept_acts : (m : Machine) (number : ℕ) (r : SlotProcess) (c : Core) → QuietSame m number r c → (effect_of m r).acts ≡ (local_step number c).acts
kept_acts m number r c same = ap (λ (e : Effect). e.acts) (sym same.1)

-- a number that no process has
pub kept_none : (m : Machine) (number : ℕ) (c : Core) → IsCore m c → slice_get m.processes.items number ≡ None
    → local_step number c ≡ record { core = c; acts = [] }
kept_none m number c core is = ap (λ (o : Option Process). local_step_of o number c) (not_found m.codes m.processes.items c.processes number core.processes is)

-- a number below the length is that of an item
pub get_some : {X : Type 0} (xs : List X) (n : ℕ) → n < length xs → (x : X) × (slice_get xs n ≡ Some x)
get_some [] n within = absurd (omega (arith, within))
get_some (x ∷ xs) zero within = (x, refl)
get_some (x ∷ xs) (suc n) within = get_some xs n (omega (arith, within))

-- a step as the code takes it: o is the next instruction
module _ (m : Machine) (number : ℕ) (o : Option SlotInstr) (c : Core) where
  abbrev pub IsNext : Type 0
  IsNext = (number < length m.processes.items) × (o ≡ next_slot_instr m.codes (slice_get m.processes.items number)) × IsLocal o

  abbrev taken : SlotProcess → SlotEffect
  taken r = slot_effect o m.processes.items r m.tree

  took_next : (r : SlotProcess) → IsNext → slice_get m.processes.items number ≡ Some r → o ≡ next_slot_instr m.codes (Some r)
  took_next r next at = next.1 ∙ ap (next_slot_instr m.codes) at

  next_quiet : (r : SlotProcess) → IsNext → slice_get m.processes.items number ≡ Some r → IsCore m c → QuietSame m number r c
  next_quiet r next at core = quiet_same m number r c core at (subst IsLocal (took_next r next at) next.2)

  next_effect : (r : SlotProcess) → IsNext → slice_get m.processes.items number ≡ Some r → taken r ≡ effect_of m r
  next_effect r next at = ap (λ (x : Option SlotInstr). slot_effect x m.processes.items r m.tree) (took_next r next at)

  pub next_core : (after : Machine) → IsNext
      → ((r : SlotProcess) → slice_get m.processes.items number ≡ Some r → after.processes.items ≡ slice_set m.processes.items number (slot_effect o m.processes.items r m.tree).process)
      → ((r : SlotProcess) → slice_get m.processes.items number ≡ Some r → after.tree ≡ (slot_effect o m.processes.items r m.tree).files)
      → after.codes ≡ m.codes → after.seed ≡ m.seed → after.last ≡ m.last → after.generator ≡ m.generator → after.asked ≡ m.asked
      → IsCore m c → IsCore after (local_step number c).core
  next_core after next processes tree codes seed last x asked core =
      let there = get_some m.processes.items number next.0 in
      let r : SlotProcess = there.0 in
      let at : slice_get m.processes.items number ≡ Some r = there.1 in
      let effect : taken r ≡ effect_of m r = next_effect r next at in
      kept_core m after number r c core at (next_quiet r next at core) codes
      (processes r at ∙ ap (λ (e : SlotEffect). slice_set m.processes.items number e.process) effect)
      (tree r at ∙ ap (λ (e : SlotEffect). e.files) effect) seed last x asked

  pub next_acts : IsNext → (r : SlotProcess) → slice_get m.processes.items number ≡ Some r → IsCore m c
      → (slot_effect o m.processes.items r m.tree).acts ≡ (local_step number c).acts
  next_acts next r at core =
      ap (λ (e : SlotEffect). e.acts) (next_effect r next at) ∙ kept_acts m number r c (next_quiet r next at core)

  pub next_told : (keeps : Bool) (old new : List Event) (step : ℕ) → IsNext
      → ((r : SlotProcess) → slice_get m.processes.items number ≡ Some r → AppendsEvents keeps old new (map (event_at step number) (slot_effect o m.processes.items r m.tree).acts))
      → IsCore m c → AppendsEvents keeps old new (map (event_at step number) (local_step number c).acts)
  next_told keeps old new step next told core =
      let there = get_some m.processes.items number next.0 in
      subst (λ (acts : List Act). AppendsEvents keeps old new (map (event_at step number) acts)) (next_acts next there.0 there.1 core) (told there.0 there.1)

-- nothing is told where no process has the number
pub none_told : (m : Machine) (number step : ℕ) (c : Core) (keeps : Bool) (old : List Event) → slice_get m.processes.items number ≡ None → IsCore m c
    → AppendsEvents keeps old old (map (event_at step number) (local_step number c).acts)
none_told m number step c keeps old none core =
    subst (λ (e : Effect). AppendsEvents keeps old old (map (event_at step number) e.acts)) (sym (kept_none m number c core none)) (λ _. sym (append-nil old))

pub none_core : (m : Machine) (number : ℕ) (c : Core) → slice_get m.processes.items number ≡ None → IsCore m c → IsCore m (local_step number c).core
none_core m number c none core = subst (λ (e : Effect). IsCore m e.core) (sym (kept_none m number c core none)) core

-- ---- the end of a process

ends_by : (o : Option SlotProcess) (q : Option Process) → option_and_then (λ r. r.status) o ≡ option_and_then (λ p. p.status) q
    → status_acts (option_and_then (λ r. r.status) o) ≡ status_acts (option_and_then (λ p. p.status) q)
ends_by o q same = ap status_acts same

acts_of_end : (q : Option Process) → status_acts (option_and_then (λ p. p.status) q) ≡ end_acts q
acts_of_end None = refl
acts_of_end (Some p) = refl

pub ends_same : (m : Machine) (number : ℕ) (c : Core) → IsCore m c → status_acts (slot_status_in m.processes.items number) ≡ ends_at number c
ends_same m number c core =
    ap status_acts (status_same m.codes m.processes.items c.processes number core.processes) ∙ acts_of_end (slice_get c.processes number)

-- one after the other
pub told_more : (keeps : Bool) (old mid new : List Event) (step number : ℕ) (first second : List Act)
    → AppendsEvents keeps old mid (map (event_at step number) first) → AppendsEvents keeps mid new (map (event_at step number) second)
    → AppendsEvents keeps old new (map (event_at step number) (first ++ second))
told_more keeps old mid new step number first second a b = λ on.
    b on ∙ ap (λ (l : List Event). l ++ map (event_at step number) second) (a on)
    ∙ append_assoc old (map (event_at step number) first) (map (event_at step number) second)
    ∙ ap (λ (l : List Event). old ++ l) (sym (map-append (event_at step number) first second))
