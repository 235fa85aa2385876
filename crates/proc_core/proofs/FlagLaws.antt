-- The flags of the processes, whether each is runnable, as one process changes and as one is made.
use Rattle.std.proofs.Common.{◌≡◌, ◌≢◌, ℕ, zero, suc, ◌+◌, ◌-◌, ◌<◌, List, [], ◌∷◌, ◌++◌, length, map, get_or, set, refl, sym, ap, ◌∙◌, arith, inl, inr, Bool, true, false, cond, length-append}
use Rattle.std.specs.Prelude.{Option, Some, None, is_none, not, ◌&&◌, slice_get}
use Rattle.std.proofs.lemmas.Bool.{cases_eq, cases_lt, and_left}
use Rattle.std.proofs.lemmas.List.{length-set, length-map, ext_get_or, get_or-set_same, get_or-set_other, get_or_append_left, get_or-append_right}
use Rattle.std.proofs.lemmas.Option.{slice_get_past, slice_get_within}
use Rattle.script_parse.specs.declared.script.Instr.TheVariants as instr
use Rattle.run_model.specs.Types.{Value, Instr}
use Rattle.run_model.specs.Core.{lookup, Process, Core, new_process}
use Rattle.run_model.specs.Schedule.{still_runs, waits_for, is_waiting, is_runnable, runnable_from, runnable_processes}
use Rattle.ready_set.specs.Ready.{numbers_from, numbers}
use Rattle.proc_core.specs.Flags.{runnable_flags, awaited_by, awaited_child}
use Rattle.proc_core.specs.FlagsLaw.{IsAt, OthersPass, GoesOn, EndsUnawaited, EndsUnder, Wakes, Spawns, NewRuns}

-- ---- the list

flags_from : (n : ℕ) (all ps : List Process) → numbers_from n (map (is_runnable all) ps) ≡ runnable_from n all ps
flags_from n all [] = refl
flags_from n all (p ∷ ps) =
    ap (λ (rest : List ℕ). cond (is_runnable all p) (n ∷ rest) rest) (flags_from (n + 1) all ps)

pub flags_runnable : (c : Core) → numbers (runnable_flags c.processes) ≡ runnable_processes c
flags_runnable c = flags_from 0 c.processes c.processes

-- ---- places

module _ {X : Type 0} where
  pub get-set_same : (xs : List X) (i : ℕ) (x : X) → i < length xs → slice_get (set xs i x) i ≡ Some x
  get-set_same [] i x within = absurd (omega arith)
  get-set_same (y ∷ xs) zero x within = refl
  get-set_same (y ∷ xs) (suc i) x within = get-set_same xs i x (omega arith)

  pub get-set_other : (xs : List X) (i k : ℕ) (x : X) → k ≢ i → slice_get (set xs i x) k ≡ slice_get xs k
  get-set_other [] zero k x apart = refl
  get-set_other [] (suc i) k x apart = refl
  get-set_other (y ∷ xs) zero zero x apart = absurd (apart refl)
  get-set_other (y ∷ xs) zero (suc k) x apart = refl
  get-set_other (y ∷ xs) (suc i) zero x apart = refl
  get-set_other (y ∷ xs) (suc i) (suc k) x apart = get-set_other xs i k x (λ same. apart (ap suc same))

  pub get-append_left : (xs ys : List X) (k : ℕ) → k < length xs → slice_get (xs ++ ys) k ≡ slice_get xs k
  get-append_left [] ys k within = absurd (omega arith)
  get-append_left (x ∷ xs) ys zero within = refl
  get-append_left (x ∷ xs) ys (suc k) within = get-append_left xs ys k (omega arith)

  pub get-append_end : (xs : List X) (x : X) → slice_get (xs ++ x ∷ []) (length xs) ≡ Some x
  get-append_end [] x = refl
  get-append_end (y ∷ xs) x = get-append_end xs x

-- ---- flags by place

abbrev flag_by : (Process → Bool) → Option Process → Bool
flag_by test None = false
flag_by test (Some p) = test p

flag_at : (test : Process → Bool) (ps : List Process) (k : ℕ) → get_or (map test ps) k false ≡ flag_by test (slice_get ps k)
flag_at test [] zero = refl
flag_at test [] (suc k) = refl
flag_at test (p ∷ ps) zero = refl
flag_at test (p ∷ ps) (suc k) = flag_at test ps k

same_flag : (test other : Process → Bool) (o : Option Process) → ((p : Process) → o ≡ Some p → test p ≡ other p) → flag_by test o ≡ flag_by other o
same_flag test other None same = refl
same_flag test other (Some p) same = same p refl

-- ---- what a process waits for

waits_by : (i : Option Instr) (p : Process) (all : List Process) → is_waiting i p all ≡ waits_for (awaited_by i p) all
waits_by None p all = refl
waits_by (Some (instr.Wait to child)) p all = refl
waits_by (Some other) p all = refl

named_by : (i : Option Instr) (p : Process) (child : ℕ) → awaited_by i p ≡ Some child
    → (name : List ℕ) × (lookup name p.children ≡ Some child)
named_by None p child is = absurd cc
named_by (Some (instr.Wait to name)) p child is = (name, is)
named_by (Some other) p child is = absurd cc

-- a process waits only for what a name of its children means
pub awaited_named : (p : Process) (child : ℕ) → awaited_child p ≡ Some child → (name : List ℕ) × (lookup name p.children ≡ Some child)
awaited_named p child is = named_by (slice_get p.script p.place) p child is

abbrev runs_by : List Process → Process → Bool
runs_by all p = is_none p.status && not (waits_for (awaited_child p) all)

pub runnable_is : (all : List Process) (p : Process) → is_runnable all p ≡ runs_by all p
runnable_is all p = ap (λ (w : Bool). is_none p.status && not w) (waits_by (slice_get p.script p.place) p all)

waits_same : (o : Option ℕ) (all other : List Process)
    → ((k : ℕ) → o ≡ Some k → still_runs (slice_get all k) ≡ still_runs (slice_get other k)) → waits_for o all ≡ waits_for o other
waits_same None all other same = refl
waits_same (Some k) all other same = same k refl

-- where what it waits for runs in both or in neither
pub runnable_same : (all other : List Process) (p : Process)
    → ((k : ℕ) → awaited_child p ≡ Some k → still_runs (slice_get all k) ≡ still_runs (slice_get other k))
    → is_runnable all p ≡ is_runnable other p
runnable_same all other p same =
    runnable_is all p ∙ ap (λ (w : Bool). is_none p.status && not w) (waits_same (awaited_child p) all other same) ∙ sym (runnable_is other p)

-- ---- one process is replaced

module _ (ps : List Process) (number : ℕ) (p q : Process) (is : IsAt number p ps) where
  abbrev now : List Process
  now = set ps number q

  within : number < length ps
  within = slice_get_within ps number p is

  -- what has ended among the others is as it was
  others_run : (k : ℕ) → k ≢ number → still_runs (slice_get now k) ≡ still_runs (slice_get ps k)
  others_run k apart = ap still_runs (get-set_other ps number k q apart)

  flag_here : get_or (runnable_flags now) number false ≡ is_runnable now q
  flag_here = flag_at (is_runnable now) now number ∙ ap (flag_by (is_runnable now)) (get-set_same ps number q within)

  flag_there : (k : ℕ) → k ≢ number → ((r : Process) → IsAt k r ps → is_runnable now r ≡ is_runnable ps r)
      → get_or (runnable_flags now) k false ≡ get_or (runnable_flags ps) k false
  flag_there k apart same =
      flag_at (is_runnable now) now k ∙ ap (flag_by (is_runnable now)) (get-set_other ps number k q apart)
      ∙ same_flag (is_runnable now) (is_runnable ps) (slice_get ps k) same ∙ sym (flag_at (is_runnable ps) ps k)

  long : length (runnable_flags now) ≡ length (runnable_flags ps)
  long = length-map now (is_runnable now) ∙ length-set ps number q ∙ sym (length-map ps (is_runnable ps))

  long_flags : length (runnable_flags ps) ≡ length ps
  long_flags = length-map ps (is_runnable ps)

  -- where no other process is runnable now and wasn't, or the other way round
  pub replaced : OthersPass (λ r k. is_runnable now r ≡ is_runnable ps r) number ps
      → runnable_flags now ≡ set (runnable_flags ps) number (is_runnable now q)
  replaced same = ext_get_or false (runnable_flags now) (set (runnable_flags ps) number (is_runnable now q))
      (long ∙ sym (length-set (runnable_flags ps) number (is_runnable now q)))
      (λ k below. elim (cases_eq k number) [
        | inl here ↦
            ap (λ (n : ℕ). get_or (runnable_flags now) n false) here ∙ flag_here
            ∙ sym (get_or-set_same (runnable_flags ps) number (is_runnable now q) false (omega (arith, within, long_flags)))
            ∙ sym (ap (λ (n : ℕ). get_or (set (runnable_flags ps) number (is_runnable now q)) n false) here)
        | inr apart ↦
            flag_there k apart (λ r there. same k r apart there)
            ∙ sym (get_or-set_other (runnable_flags ps) number k (is_runnable now q) false apart)
      ])

  -- it has ended, and what doesn't wait for it stays as it is
  ended_rests : (status : ℕ) → q.status ≡ Some status → is_runnable now q ≡ false
  ended_rests status end = and_left (is_none q.status) _ (ap is_none end)

  not_awaited : (r : Process) → awaited_child r ≢ Some number → is_runnable now r ≡ is_runnable ps r
  not_awaited r apart = runnable_same now ps r (λ k waits. others_run k (λ same. apart (waits ∙ ap {B = Option ℕ} Some same)))

  pub ended : (status : ℕ) → q.status ≡ Some status → OthersPass (λ r k. awaited_child r ≢ Some number) number ps
      → runnable_flags now ≡ set (runnable_flags ps) number false
  ended status end others =
      replaced (λ k r apart there. not_awaited r (others k r apart there))
      ∙ ap (set (runnable_flags ps) number) (ended_rests status end)

  -- the one that waits for it is runnable
  woken : (status : ℕ) (r : Process) → q.status ≡ Some status → r.status ≡ None → awaited_child r ≡ Some number → is_runnable now r ≡ true
  woken status r end runs waits =
      let over : still_runs (slice_get now number) ≡ false = ap still_runs (get-set_same ps number q within) ∙ ap is_none end in
      runnable_is now r ∙ ap (λ (b : Bool). b && not (waits_for (awaited_child r) now)) (ap is_none runs)
      ∙ ap (λ (o : Option ℕ). true && not (waits_for o now)) waits ∙ ap (λ (b : Bool). true && not b) over

  module _ (parent status : ℕ) (r : Process) (end : q.status ≡ Some status) (there : IsAt parent r ps) (apart : parent ≢ number)
      (others : OthersPass (λ s k. k ≢ parent → awaited_child s ≢ Some number) number ps) where
    abbrev ended_flags : List Bool
    ended_flags = set (runnable_flags ps) number false

    parent_flag : get_or (runnable_flags now) parent false ≡ is_runnable now r
    parent_flag =
        flag_at (is_runnable now) now parent
        ∙ ap (flag_by (is_runnable now)) (get-set_other ps number parent q apart ∙ there)

    other_flag : (k : ℕ) → k ≢ parent → get_or (runnable_flags now) k false ≡ get_or ended_flags k false
    other_flag k aside = elim (cases_eq k number) [
      | inl here ↦
          ap (λ (n : ℕ). get_or (runnable_flags now) n false) here ∙ flag_here ∙ ended_rests status end
          ∙ sym (get_or-set_same (runnable_flags ps) number false false (omega (arith, within, long_flags)))
          ∙ sym (ap (λ (n : ℕ). get_or ended_flags n false) here)
      | inr far ↦
          flag_there k far (λ s at. not_awaited s (others k s far at aside))
          ∙ sym (get_or-set_other (runnable_flags ps) number k false false far)
    ]

    pub ended_under : runnable_flags now ≡ set ended_flags parent (is_runnable now r)
    ended_under = ext_get_or false (runnable_flags now) (set ended_flags parent (is_runnable now r))
        (long ∙ sym (length-set ended_flags parent (is_runnable now r) ∙ length-set (runnable_flags ps) number false))
        (λ k below. elim (cases_eq k parent) [
          | inl here ↦
              let inside : parent < length ended_flags =
              omega (arith, slice_get_within ps parent r there, long_flags, length-set (runnable_flags ps) number false) in
              ap (λ (n : ℕ). get_or (runnable_flags now) n false) here ∙ parent_flag
              ∙ sym (get_or-set_same ended_flags parent (is_runnable now r) false inside)
              ∙ sym (ap (λ (n : ℕ). get_or (set ended_flags parent (is_runnable now r)) n false) here)
          | inr aside ↦ other_flag k aside ∙ sym (get_or-set_other ended_flags parent k (is_runnable now r) false aside)
        ])

pub runnable-goes_on : GoesOn
runnable-goes_on ps number p q is same = replaced ps number p q is (λ k r apart there. runnable_same (set ps number q) ps r (λ j waits. runs j))
  where
    runs : (j : ℕ) → still_runs (slice_get (set ps number q) j) ≡ still_runs (slice_get ps j)
    runs j = elim (cases_eq j number) [
      | inl here ↦
          ap (λ (n : ℕ). still_runs (slice_get (set ps number q) n)) here
          ∙ ap still_runs (get-set_same ps number q (slice_get_within ps number p is)) ∙ same
          ∙ sym (ap still_runs is) ∙ sym (ap (λ (n : ℕ). still_runs (slice_get ps n)) here)
      | inr apart ↦ ap still_runs (get-set_other ps number j q apart)
    ]

pub ends : EndsUnawaited
ends ps number status p q is end others = ended ps number p q is status end others

pub ends_under : EndsUnder
ends_under ps number parent status p q r is end there apart others = ended_under ps number p q is parent status r end there apart others

pub wakes : Wakes
wakes ps number status p q r is end runs waits = woken ps number p q is status r end runs waits

-- ---- a child is made

module _ (ps : List Process) (number : ℕ) (p q child : Process) (is : IsAt number p ps) (same : is_none q.status ≡ is_none p.status)
    (none : OthersPass (λ r k. awaited_child r ≢ Some (length ps)) number ps) where
  abbrev front : List Process
  front = set ps number q

  abbrev more : List Process
  more = front ++ child ∷ []

  inside : number < length ps
  inside = slice_get_within ps number p is

  front_long : length front ≡ length ps
  front_long = length-set ps number q

  old_flags_long : length (runnable_flags ps) ≡ length ps
  old_flags_long = length-map ps (is_runnable ps)

  front_at : (k : ℕ) → k < length ps → slice_get more k ≡ slice_get front k
  front_at k below = get-append_left front (child ∷ []) k (omega (arith, front_long))

  -- whether a process other than the child runs is as it was
  spawn_runs : (k : ℕ) → k ≢ length ps → still_runs (slice_get more k) ≡ still_runs (slice_get ps k)
  spawn_runs k apart = elim (cases_lt k (length ps)) [
    | inl below ↦ ap still_runs (front_at k below) ∙ front_run
    | inr past ↦
        ap still_runs (slice_get_past more k (omega (arith, length-append front (child ∷ []), front_long, apart)))
        ∙ sym (ap still_runs (slice_get_past ps k past))
  ]
    where
      front_run : still_runs (slice_get front k) ≡ still_runs (slice_get ps k)
      front_run = elim (cases_eq k number) [
        | inl here ↦
            ap (λ (n : ℕ). still_runs (slice_get front n)) here ∙ ap still_runs (get-set_same ps number q inside) ∙ same
            ∙ sym (ap still_runs is) ∙ sym (ap (λ (n : ℕ). still_runs (slice_get ps n)) here)
        | inr far ↦ ap still_runs (get-set_other ps number k q far)
      ]

  old_flag : (k : ℕ) → k < length ps → k ≢ number → get_or (runnable_flags more) k false ≡ get_or (runnable_flags ps) k false
  old_flag k below far =
      flag_at (is_runnable more) more k
      ∙ ap (flag_by (is_runnable more)) (front_at k below ∙ get-set_other ps number k q far)
      ∙ same_flag (is_runnable more) (is_runnable ps) (slice_get ps k)
      (λ r there. runnable_same more ps r (λ j waits. spawn_runs j (λ last. none k r far there (waits ∙ ap {B = Option ℕ} Some last))))
      ∙ sym (flag_at (is_runnable ps) ps k)

  abbrev set_flags : List Bool
  set_flags = set (runnable_flags ps) number (is_runnable more q)

  set_flags_long : length set_flags ≡ length ps
  set_flags_long = length-set (runnable_flags ps) number (is_runnable more q) ∙ old_flags_long

  front_flag : (k : ℕ) → k < length ps → get_or (runnable_flags more) k false ≡ get_or set_flags k false
  front_flag k below = elim (cases_eq k number) [
    | inl here ↦
        ap (λ (n : ℕ). get_or (runnable_flags more) n false) here
        ∙ flag_at (is_runnable more) more number
        ∙ ap (flag_by (is_runnable more)) (front_at number inside ∙ get-set_same ps number q inside)
        ∙ sym (get_or-set_same (runnable_flags ps) number (is_runnable more q) false (omega (arith, inside, old_flags_long)))
        ∙ sym (ap (λ (n : ℕ). get_or set_flags n false) here)
    | inr far ↦ old_flag k below far ∙ sym (get_or-set_other (runnable_flags ps) number k (is_runnable more q) false far)
  ]

  child_flag : get_or (runnable_flags more) (length front) false ≡ is_runnable more child
  child_flag = flag_at (is_runnable more) more (length front) ∙ ap (flag_by (is_runnable more)) (get-append_end front child)

  pub spawned : runnable_flags more ≡ set_flags ++ is_runnable more child ∷ []
  spawned = ext_get_or false (runnable_flags more) (set_flags ++ is_runnable more child ∷ [])
      (length-map more (is_runnable more) ∙ omega (arith, length-append front (child ∷ []), front_long, length-append set_flags (is_runnable more child ∷ []), set_flags_long))
      (λ k below. elim (cases_lt k (length ps)) [
        | inl before ↦
            front_flag k before
            ∙ sym (get_or_append_left set_flags (is_runnable more child ∷ []) false k (omega (arith, before, set_flags_long)))
        | inr past ↦
            let last : k ≡ length front = omega (arith, past, below, front_long, length-map more (is_runnable more), length-append front (child ∷ [])) in
            let first : k - length ps ≡ 0 = omega (arith, last, front_long) in
            ap (λ (n : ℕ). get_or (runnable_flags more) n false) last ∙ child_flag
            ∙ sym (ap (λ (n : ℕ). get_or (is_runnable more child ∷ []) n false) first)
            ∙ sym (get_or-append_right set_flags (is_runnable more child ∷ []) (length ps) k false set_flags_long past)
      ])

pub spawns : Spawns
spawns ps number p q child is same none = spawned ps number p q child is same none

-- it has no child
no_child : (i : Option Instr) (name : List ℕ) (script : List Instr) (arguments : List Value)
    → awaited_by i (new_process name script arguments) ≡ None
no_child None name script arguments = refl
no_child (Some (instr.Wait to child)) name script arguments = refl
no_child (Some other) name script arguments = refl

pub new_runs : NewRuns
new_runs all name script arguments =
    let p : Process = new_process name script arguments in
    runnable_is all p ∙ ap (λ (o : Option ℕ). true && not (waits_for o all)) (no_child (slice_get script 0) name script arguments)
