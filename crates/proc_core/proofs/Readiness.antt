-- The set of processes that may run, as a step is made.
use Rattle.std.proofs.Common.{◌≡◌, ◌≢◌, ◌⊎◌, ℕ, zero, suc, ◌+◌, ◌<◌, ◌≤◌, List, [], ◌∷◌, ◌++◌, length, refl, sym, ap, ◌∙◌, subst, Bool, true, false, arith, inl, inr}
use Rattle.std.specs.Prelude.{Option, Some, None, option_and_then, slice_get, slice_set, is_none, not, ◌&&◌, slice_index_or}
use Rattle.std.specs.List.{AllByRecursion}
use Rattle.std.proofs.lemmas.Bool.{cases_Bool, cases_eq}
use Rattle.std.proofs.lemmas.List.{length-set, length-map}
use Rattle.std.proofs.lemmas.Option.{slice_get_past, slice_get_within}
use Rattle.ready_set.specs.Ready.{ReadyView}
use Rattle.script_code.specs.declared.code.Code.{Code}
use Rattle.proc_core.specs.Flags.{runnable_flags, awaited_child}
use Rattle.proc_core.specs.FlagsLaw.{OthersPass}
use Rattle.proc_core.proofs.FlagLaws.{get-set_same, get-set_other, get-append_left, get-append_end, awaited_named, runnable-goes_on, ends, ends_under, spawns, new_runs}
use Rattle.proc_core.specs.Types.{Value, Instr}
use Rattle.run_model.specs.Core.{NameBinding, is_bound, lookup, unbind, Process, Core, have_all_ended}
use Rattle.run_model.specs.RunLaw.{MayRun}
use Rattle.run_model.specs.Schedule.{is_waiting, is_runnable, choose}
use Rattle.run_model.specs.StepProcesses.{child_of, parent_of, status_in}
use Rattle.run_model.proofs.NeverStuck.{IsAbove, ChildrenLater, Ordered, chosen_runs}
use Rattle.proc_core.specs.declared.machine.Machine.{Machine}
use Rattle.proc_core.specs.declared.process.SlotProcess.{SlotProcess}
use Rattle.proc_core.specs.inner.SlotReady.{Grows, marked_by, marked, marked_above, refreshed}
use Rattle.proc_core.specs.Running.{IsKin, AreKin, IsReady}
use Rattle.proc_core.specs.inner.SlotStep.{slot_status_in}
use Rattle.proc_core.specs.Stands.{AreProcesses, IsCore}
use Rattle.proc_core.proofs.Machines.{slot_process-at, not_found, status_same}
use Rattle.proc_core.proofs.Runnable.{runnable_one}
use Rattle.proc_core.proofs.SpawnSame.{as_many}
use Rattle.proc_core.proofs.Growing.{one_more}

-- ---- flags of processes

module _ (ps : List Process) where
  abbrev set_by : ℕ → Option Process → List Bool → List Bool
  set_by number None flags = flags
  set_by number (Some p) flags = slice_set flags number (is_runnable ps p)

  abbrev set_at : ℕ → List Bool → List Bool
  set_at number flags = set_by number (slice_get ps number) flags

  abbrev set_parent : Option ℕ → List Bool → List Bool
  set_parent None flags = flags
  set_parent (Some parent) flags = set_at parent flags

  abbrev set_above : Option ℕ → Option ℕ → List Bool → List Bool
  set_above None parent flags = flags
  set_above (Some status) parent flags = set_parent parent flags

  abbrev fresh : List ℕ → ℕ → List Bool → List Bool
  fresh parents number flags = set_above (status_in ps number) (slice_get parents number) (set_at number flags)

module _ (codes : List Code) (rs : List SlotProcess) (ps : List Process) (are : AreProcesses codes rs ps) where
  marked_same_by : (number : ℕ) (flags : List Bool) (o : Option SlotProcess) → slice_get rs number ≡ o
      → marked_by codes rs number o flags ≡ set_at ps number flags
  marked_same_by number flags None is =
      ap (λ (q : Option Process). set_by ps number q flags) (sym (not_found codes rs ps number are is))
  marked_same_by number flags (Some r) is =
      let there = slot_process-at codes rs ps number r are is in
      ap (slice_set flags number) (runnable_one codes r there.0 rs ps there.2 are)
      ∙ ap (λ (q : Option Process). set_by ps number q flags) (sym there.1)

  marked_same : (number : ℕ) (flags : List Bool) → marked codes rs number flags ≡ set_at ps number flags
  marked_same number flags = marked_same_by number flags (slice_get rs number) refl

  above_same : (status parent : Option ℕ) (flags : List Bool) → marked_above codes rs status parent flags ≡ set_above ps status parent flags
  above_same None parent flags = refl
  above_same (Some status) None flags = refl
  above_same (Some status) (Some parent) flags = marked_same parent flags

  pub refreshed_same : (parents : List ℕ) (number : ℕ) (flags : List Bool) → refreshed codes rs parents number flags ≡ fresh ps parents number flags
  refreshed_same parents number flags =
      above_same (slot_status_in rs number) (slice_get parents number) (marked codes rs number flags)
      ∙ (λ i. set_above ps (status_same codes rs ps number are i) (slice_get parents number) (marked_same number flags i))

-- ---- kin

lookup_all : (P : NameBinding ℕ → Type 0) (name : List ℕ) (bs : List (NameBinding ℕ)) (child : ℕ) → AllByRecursion P bs → lookup name bs ≡ Some child
    → (b : NameBinding ℕ) × (b.bound ≡ child) × P b
lookup_all P name [] child all is = absurd cc
lookup_all P name (b ∷ bs) child all is = elim (cases_Bool (is_bound name b)) [
  | inl hit ↦
      let at : Some b.bound ≡ Some child = rw hit at is in
      (b, one b.bound child at, all.0)
  | inr miss ↦ lookup_all P name bs child all.1 (rw miss at is)
]
  where
    one : (x y : ℕ) → Some x ≡ Some y → x ≡ y
    one x y both = cc

-- a child that a process waits for is its own
awaited_kin : (parents : List ℕ) (ps : List Process) (number child : ℕ) (p : Process) → AreKin parents ps → slice_get ps number ≡ Some p
    → awaited_child p ≡ Some child → slice_get parents child ≡ Some number
awaited_kin parents ps number child p kin at waits =
    let named = awaited_named p child waits in
    let there = lookup_all (IsKin parents number) named.0 p.children child (kin number p at) named.1 in
    ap (slice_get parents) (sym there.1) ∙ there.2.0

some_same : {X : Type 0} (x y : X) → Some x ≡ Some y → x ≡ y
some_same x y both = cc

all_map : (P Q : NameBinding ℕ → Type 0) (bs : List (NameBinding ℕ)) → ((b : NameBinding ℕ) → P b → Q b) → AllByRecursion P bs → AllByRecursion Q bs
all_map P Q [] f all = tt
all_map P Q (b ∷ bs) f all = (f b all.0, all_map P Q bs f all.1)

all_unbound : (P : NameBinding ℕ → Type 0) (name : List ℕ) (bs : List (NameBinding ℕ)) → AllByRecursion P bs → AllByRecursion P (unbind name bs)
all_unbound P name [] all = tt
all_unbound P name (b ∷ bs) all = elim (cases_Bool (is_bound name b)) [
  | inl hit ↦ rw hit (all_unbound P name bs all.1)
  | inr miss ↦ rw miss (all.0, all_unbound P name bs all.1)
]

-- one after another from a number on
kin_ordered_from : (parents : List ℕ) (n : ℕ) (ps : List Process)
    → ((k : ℕ) (p : Process) → slice_get ps k ≡ Some p → AllByRecursion (IsKin parents (n + k)) p.children) → ChildrenLater n ps
kin_ordered_from parents n [] kin = tt
kin_ordered_from parents n (p ∷ ps) kin =
    let none : n + 0 ≡ n = omega arith in (
      all_map (IsKin parents n) (IsAbove n) p.children (λ b is. is.1) (subst (λ (k : ℕ). AllByRecursion (IsKin parents k) p.children) none (kin 0 p refl)),
      kin_ordered_from parents (suc n) ps (λ k q at.
          let next : n + suc k ≡ suc n + k = omega arith in
          subst (λ (j : ℕ). AllByRecursion (IsKin parents j) q.children) next (kin (suc k) q at)),
    )

pub kin_ordered : (parents : List ℕ) (c : Core) → AreKin parents c.processes → Ordered c
kin_ordered parents c kin =
    kin_ordered_from parents 0 c.processes (λ k p at.
    let none : k ≡ 0 + k = omega arith in
    subst (λ (j : ℕ). AllByRecursion (IsKin parents j) p.children) none (kin k p at))

-- the process that is chosen may run
pub ready_runs : (m : Machine) (c : Core) → IsReady m c → have_all_ended c ≡ false → MayRun (choose None c) c
ready_runs m c ready going = chosen_runs None c (kin_ordered m.parents c ready.kin) going

-- ---- a process stands in place of another

set_twice : {X : Type 0} (xs : List X) (n : ℕ) (x : X) → slice_set (slice_set xs n x) n x ≡ slice_set xs n x
set_twice [] n x = refl
set_twice {X} (y ∷ xs) zero x = refl
set_twice {X} (y ∷ xs) (suc n) x = ap (λ (l : List X). y ∷ l) (set_twice xs n x)

module _ (parents : List ℕ) (ps : List Process) (number : ℕ) (p q : Process) (kin : AreKin parents ps) (at : slice_get ps number ≡ Some p) where
  abbrev now : List Process
  now = slice_set ps number q

  here : slice_get now number ≡ Some q
  here = get-set_same ps number q (slice_get_within ps number p at)

  pub kin_changed : q.children ≡ p.children → AreKin parents now
  kin_changed same k r is = elim (cases_eq k number) [
    | inl equal ↦
        let q_is : q ≡ r = some_same q r (sym here ∙ ap (slice_get now) (sym equal) ∙ is) in
        let own : AllByRecursion (IsKin parents number) q.children = subst (AllByRecursion (IsKin parents number)) (sym same) (kin number p at) in
        subst (λ (j : ℕ). AllByRecursion (IsKin parents j) r.children) (sym equal) (subst (λ (x : Process). AllByRecursion (IsKin parents number) x.children) q_is own)
    | inr apart ↦ kin k r (sym (get-set_other ps number k q apart) ∙ is)
  ]

  -- no other process than the parent waits for it
  only_parent : (k : ℕ) (r : Process) → slice_get ps k ≡ Some r → awaited_child r ≡ Some number → slice_get parents number ≡ Some k
  only_parent k r is waits = awaited_kin parents ps k number r kin is waits

  rests : (status : ℕ) → q.status ≡ Some status → is_runnable now q ≡ false
  rests status end = ap (λ (o : Option ℕ). is_none o && not (is_waiting (slice_get q.script q.place) q now)) end

  flag_here : (flags : List Bool) → set_at now number flags ≡ slice_set flags number (is_runnable now q)
  flag_here flags = ap (λ (o : Option Process). set_by now number o flags) here

  status_here : status_in now number ≡ q.status
  status_here = ap (option_and_then (λ (r : Process). r.status)) here

  fresh_by : (o : Option ℕ) (flags : List Bool) → q.status ≡ o
      → fresh now parents number flags ≡ set_above now o (slice_get parents number) (slice_set flags number (is_runnable now q))
  fresh_by o flags is = λ i. set_above now ((status_here ∙ is) i) (slice_get parents number) (flag_here flags i)

  -- where none waits for it
  ended_alone : (status : ℕ) → q.status ≡ Some status → OthersPass (λ r k. awaited_child r ≢ Some number) number ps
      → slice_set (runnable_flags ps) number (is_runnable now q) ≡ runnable_flags now
  ended_alone status end others =
      ap (slice_set (runnable_flags ps) number) (rests status end) ∙ sym (ends ps number status p q at end others)

  parent_flag : (status parent : ℕ) → q.status ≡ Some status → slice_get parents number ≡ Some parent → parent ≢ number
      → (o : Option Process) → slice_get ps parent ≡ o
      → set_by now parent o (slice_set (runnable_flags ps) number (is_runnable now q)) ≡ runnable_flags now
  parent_flag status parent end is apart None none = ended_alone status end (λ k r far there waits.
      let same : parent ≡ k = some_same parent k (sym is ∙ only_parent k r there waits) in
      let no : None ≡ Some r = sym none ∙ ap (slice_get ps) same ∙ there in
      absurd cc)
  parent_flag status parent end is apart (Some r) there =
      ap (λ (b : Bool). slice_set (slice_set (runnable_flags ps) number b) parent (is_runnable now r)) (rests status end)
      ∙ sym (ends_under ps number parent status p q r at end there apart (λ k s far there aside waits.
      aside (sym (some_same parent k (sym is ∙ only_parent k s there waits)))))

  above_flag : (status : ℕ) (parent : Option ℕ) → q.status ≡ Some status → slice_get parents number ≡ parent
      → set_parent now parent (slice_set (runnable_flags ps) number (is_runnable now q)) ≡ runnable_flags now
  above_flag status None end none = ended_alone status end (λ k r far there waits.
      let no : None ≡ Some k = sym none ∙ only_parent k r there waits in
      absurd cc)
  above_flag status (Some parent) end is = elim (cases_eq parent number) [
    | inl equal ↦
        let flags : List Bool = slice_set (runnable_flags ps) number (is_runnable now q) in
        ap (λ (k : ℕ). set_at now k flags) equal ∙ flag_here flags ∙ set_twice (runnable_flags ps) number (is_runnable now q)
        ∙ ended_alone status end (λ k r far there waits. far (sym (some_same parent k (sym is ∙ only_parent k r there waits)) ∙ equal))
    | inr apart ↦
        ap (λ (o : Option Process). set_by now parent o (slice_set (runnable_flags ps) number (is_runnable now q))) (get-set_other ps number parent q apart)
        ∙ parent_flag status parent end is apart (slice_get ps parent) refl
  ]

  fresh_changed_by : (o : Option ℕ) → q.status ≡ o → p.status ≡ None → fresh now parents number (runnable_flags ps) ≡ runnable_flags now
  fresh_changed_by None is runs =
      fresh_by None (runnable_flags ps) is ∙ sym (runnable-goes_on ps number p q at (ap is_none is ∙ sym (ap is_none runs)))
  fresh_changed_by (Some status) is runs =
      fresh_by (Some status) (runnable_flags ps) is ∙ above_flag status (slice_get parents number) is refl

  pub fresh_changed : p.status ≡ None → fresh now parents number (runnable_flags ps) ≡ runnable_flags now
  fresh_changed runs = fresh_changed_by q.status refl runs

-- ---- a child is made

set_append : {X : Type 0} (xs ys : List X) (n : ℕ) (x : X) → n < length xs → slice_set (xs ++ ys) n x ≡ slice_set xs n x ++ ys
set_append [] ys n x within = absurd (omega (arith, within))
set_append {X} (y ∷ xs) ys zero x within = refl
set_append {X} (y ∷ xs) ys (suc n) x within = ap (λ (l : List X). y ∷ l) (set_append xs ys n x (omega (arith, within)))

module _ (parents : List ℕ) (ps : List Process) (number : ℕ) (name : List ℕ) (script : List Instr) (arguments : List Value) (p : Process)
    (kin : AreKin parents ps) (at : slice_get ps number ≡ Some p) (count : length parents ≡ length ps) where
  abbrev parent : Process
  parent = parent_of (length ps) name p

  abbrev child : Process
  child = child_of p script arguments

  abbrev front : List Process
  front = slice_set ps number parent

  abbrev more : List Process
  more = front ++ child ∷ []

  inside : number < length ps
  inside = slice_get_within ps number p at

  front_long : length front ≡ length ps
  front_long = length-set ps number parent

  there_now : slice_get more number ≡ Some parent
  there_now = get-append_left front (child ∷ []) number (omega (arith, inside, front_long)) ∙ get-set_same ps number parent inside

  kin_stays : (k : ℕ) (b : NameBinding ℕ) → IsKin parents k b → IsKin (parents ++ number ∷ []) k b
  kin_stays k b is = (get-append_left parents (number ∷ []) b.bound (slice_get_within parents b.bound k is.0) ∙ is.0, is.1)

  kin_parent : AllByRecursion (IsKin (parents ++ number ∷ []) number) parent.children
  kin_parent = (
    (ap (slice_get (parents ++ number ∷ [])) (sym count) ∙ get-append_end parents number, inside),
    all_unbound (IsKin (parents ++ number ∷ []) number) name p.children
        (all_map (IsKin parents number) (IsKin (parents ++ number ∷ []) number) p.children (kin_stays number) (kin number p at)),
  )

  kin_front : (k : ℕ) (r : Process) → slice_get front k ≡ Some r → AllByRecursion (IsKin (parents ++ number ∷ []) k) r.children
  kin_front k r is = elim (cases_eq k number) [
    | inl equal ↦
        let same : parent ≡ r = some_same parent r (sym (get-set_same ps number parent inside) ∙ ap (slice_get front) (sym equal) ∙ is) in
        subst (λ (j : ℕ). AllByRecursion (IsKin (parents ++ number ∷ []) j) r.children) (sym equal)
        (subst (λ (x : Process). AllByRecursion (IsKin (parents ++ number ∷ []) number) x.children) same kin_parent)
    | inr apart ↦
        all_map (IsKin parents k) (IsKin (parents ++ number ∷ []) k) r.children (kin_stays k) (kin k r (sym (get-set_other ps number k parent apart) ∙ is))
  ]

  pub kin_made : AreKin (parents ++ number ∷ []) more
  kin_made k r is = elim (cases_eq k (length front)) [
    | inl equal ↦
        let same : child ≡ r = some_same child r (sym (get-append_end front child) ∙ ap (slice_get more) (sym equal) ∙ is) in
        subst (λ (x : Process). AllByRecursion (IsKin (parents ++ number ∷ []) k) x.children) same tt
    | inr apart ↦
        let below : k < length front = omega (arith, apart, slice_get_within more k r is, one_more front child) in
        kin_front k r (sym (get-append_left front (child ∷ []) k below) ∙ is)
  ]

  none_waits : OthersPass (λ r k. awaited_child r ≢ Some (length ps)) number ps
  none_waits k r far there waits =
      let is : slice_get parents (length ps) ≡ Some k = awaited_kin parents ps k (length ps) r kin there waits in
      let no : None ≡ Some k = sym (slice_get_past parents (length ps) (omega (arith, count))) ∙ is in
      absurd cc

  pub fresh_made : p.status ≡ None → fresh more (parents ++ number ∷ []) number (runnable_flags ps ++ true ∷ []) ≡ runnable_flags more
  fresh_made runs =
      let long : length (runnable_flags ps) ≡ length ps = length-map ps (is_runnable ps) in
      let state : status_in more number ≡ None = ap (option_and_then (λ (r : Process). r.status)) there_now ∙ runs in
      let flag : set_at more number (runnable_flags ps ++ true ∷ []) ≡ slice_set (runnable_flags ps ++ true ∷ []) number (is_runnable more parent) =
      ap (λ (o : Option Process). set_by more number o (runnable_flags ps ++ true ∷ [])) there_now in
      (λ i. set_above more (state i) (slice_get (parents ++ number ∷ []) number) (flag i))
      ∙ set_append (runnable_flags ps) (true ∷ []) number (is_runnable more parent) (omega (arith, inside, long))
      ∙ ap (λ (b : Bool). slice_set (runnable_flags ps) number (is_runnable more parent) ++ b ∷ []) (sym (new_runs more (p.name ++ p.spawned ∷ []) script arguments))
      ∙ sym (spawns ps number p parent child at refl none_waits)

-- ---- a step

-- a process was changed, whose children are the same, or it made one more
abbrev pub Changed : List Process → ℕ → Process → List Process → Type 0
Changed ps number p new = (q : Process) × (new ≡ slice_set ps number q) × (q.children ≡ p.children)

abbrev pub Made : List Process → ℕ → Process → List Process → Type 0
Made ps number p new =
    (name : List ℕ) × (script : List Instr) × (arguments : List Value)
    × (new ≡ slice_set ps number (parent_of (length ps) name p) ++ child_of p script arguments ∷ [])

abbrev pub Moved : List Process → ℕ → Process → List Process → Type 0
Moved ps number p new = Changed ps number p new ⊎ Made ps number p new

module _ (m after last : Machine) (number : ℕ) (c d : Core) (p : Process) (core : IsCore m c) (ready : IsReady m c)
    (at : slice_get c.processes number ≡ Some p) (runs : p.status ≡ None) (stands : IsCore after d) (grows : Grows m number after)
    (flags : last.ready.flags ≡ refreshed after.codes after.processes.items after.parents number after.ready.flags)
    (others : last ≡ record after { ready = last.ready }) where
  before_long : length m.processes.items ≡ length c.processes
  before_long = as_many m.codes m.processes.items c.processes core.processes

  after_long : length after.processes.items ≡ length d.processes
  after_long = as_many after.codes after.processes.items d.processes stands.processes

  same_parents : last.parents ≡ after.parents
  same_parents = ap (λ (x : Machine). x.parents) others

  by_fresh : last.ready.flags ≡ fresh d.processes after.parents number after.ready.flags
  by_fresh = flags ∙ refreshed_same after.codes after.processes.items d.processes stands.processes after.parents number after.ready.flags

  pub next_ready : Moved c.processes number p d.processes → IsReady last d
  next_ready (inl changed) =
      let q : Process = changed.0 in
      let long : length d.processes ≡ length c.processes = ap length changed.1 ∙ length-set c.processes number q in
      let kept = grows.same (after_long ∙ long ∙ sym before_long) in
      let parents : last.parents ≡ m.parents = same_parents ∙ kept.1 in
      record {
        flags = by_fresh
            ∙ (λ i. fresh (changed.1 i) (kept.1 i) number ((ap (λ (x : ReadyView). x.flags) kept.0 ∙ ready.flags) i))
            ∙ fresh_changed m.parents c.processes number p q ready.kin at runs
            ∙ ap runnable_flags (sym changed.1);
        count = ap length parents ∙ ready.count ∙ sym long;
        kin = subst (λ (l : List ℕ). AreKin l d.processes) (sym parents)
            (subst (AreKin m.parents) (sym changed.1) (kin_changed m.parents c.processes number p q ready.kin at changed.2));
      }
  next_ready (inr made) =
      let name : List ℕ = made.0 in
      let script : List Instr = made.1 in
      let arguments : List Value = made.2 in
      let front : List Process = slice_set c.processes number (parent_of (length c.processes) name p) in
      let long : length d.processes ≡ suc (length c.processes) =
      ap length made.3 ∙ one_more front (child_of p script arguments) ∙ ap suc (length-set c.processes number (parent_of (length c.processes) name p)) in
      let grown = grows.more (after_long ∙ long ∙ ap suc (sym before_long)) in
      let parents : last.parents ≡ m.parents ++ number ∷ [] = same_parents ∙ grown.1 in
      record {
        flags = by_fresh
            ∙ (λ i. fresh (made.3 i) (grown.1 i) number ((grown.0 ∙ ap (λ (l : List Bool). l ++ true ∷ []) ready.flags) i))
            ∙ fresh_made m.parents c.processes number name script arguments p ready.kin at ready.count runs
            ∙ ap runnable_flags (sym made.3);
        count = ap length parents ∙ one_more m.parents number ∙ ap suc ready.count ∙ sym long;
        kin = subst (λ (l : List ℕ). AreKin l d.processes) (sym parents)
            (subst (AreKin (m.parents ++ number ∷ [])) (sym made.3) (kin_made m.parents c.processes number name script arguments p ready.kin at ready.count));
      }

-- ---- flags of numbers

pub set_past : {X : Type 0} (xs : List X) (n : ℕ) (x : X) → length xs ≤ n → slice_set xs n x ≡ xs
set_past [] n x past = refl
set_past (y ∷ xs) zero x past = absurd (omega (arith, past))
set_past {X} (y ∷ xs) (suc n) x past = ap (λ (l : List X). y ∷ l) (set_past xs n x (omega (arith, past)))

pub set_same : (flags : List Bool) (n : ℕ) (flag : Bool) → n < length flags → slice_index_or flags n false ≡ flag → slice_set flags n flag ≡ flags
set_same [] n flag within is = absurd (omega (arith, within))
set_same (f ∷ flags) zero flag within is = ap (λ (b : Bool). b ∷ flags) (sym is)
set_same (f ∷ flags) (suc n) flag within is = ap (λ (l : List Bool). f ∷ l) (set_same flags n flag (omega (arith, within)) is)
