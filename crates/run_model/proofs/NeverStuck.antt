-- While a process hasn't ended, the one that is chosen may run: a process waits for its children alone, and they
-- were made after it.
use Rattle.std.proofs.Common.{◌≡◌, ℕ, zero, suc, ◌+◌, ◌-◌, ◌%◌, ◌/◌, ◌^◌, ◌<◌, ◌≤◌, List, [], ◌∷◌, ◌++◌, length, refl, sym, ap, ◌∙◌, subst, Bool, true, false, arith, inl, inr}
use Rattle.std.specs.Prelude.{Option, Some, None, find, slice_get, slice_set, slice_index, is_some, is_none, not, ◌&&◌, ◌==◌, nat_lt}
use Rattle.std.specs.List.{list_all, AllByRecursion}
use Rattle.std.proofs.lemmas.Bool.{cases_Bool, and_parts, and_from}
use Rattle.ldv_value.specs.FileState.{content_at}
use Rattle.ldv_value.specs.Order.{order, meets}
use Rattle.script_parse.specs.declared.script.Instr.TheVariants as instr
use Rattle.run_model.specs.Types.{Instr, Reply, Variable}
use Rattle.run_model.specs.Core.{NameBinding, is_bound, lookup, unbind, Process, Core, has_ended, have_all_ended, is_over, with_process}
use Rattle.run_model.specs.Database.{Answer, Gives, Diverges, Base}
use Rattle.run_model.specs.Run.{first_pick, later_picks, chosen, move_of, move, run}
use Rattle.run_model.specs.RunLaw.{MayRun, start_state_of, NeverStuckLaw}
use Rattle.run_model.specs.Schedule.{still_runs, waits_for, is_waiting, is_runnable, runnable_from, runnable_processes, next_or_least, pick_in, pick_of, moved_x, choose}
use Rattle.run_model.specs.State.{State}
use Rattle.run_model.specs.Step.{Ask, process_with_reply, execute, execute_next, local_step_of, took_of, next_ask, told, asking}
use Rattle.run_model.specs.StepBase.{operand_value, operand_values, FileEffect, on_files}
use Rattle.run_model.specs.StepFiles.{path_at, open_for, allows_read, allows_write, open_path, read_next, write_line, copy_rest, remove_path, test_path}
use Rattle.run_model.specs.StepProcesses.{SpawnRequest, child_of, parent_of, spawn_script, script_within, spawn_file, spawn_path, spawning_of, status_in, wait_until, wait_for}
use Rattle.run_model.specs.StepReplies.{row_count, status_value}
use Rattle.run_model.specs.StepVariables.{calculation, to_number, printed_line}
use Rattle.run_model.proofs.Equations.{run-zero, run-over, run-suc}
use Rattle.run_model.proofs.StepKeeps.{Keeps, keeps_assign, keeps_glue, keeps_cut, keeps_jump, keeps_line, keeps_fetch, keeps_close, keeps_open, keeps_read, keeps_write, keeps_copy, keeps_remove, keeps_test, calculated_byte, to_number_byte, counted_byte, status_value_byte}

-- ---- children are made after their process

abbrev pub IsAbove : ℕ → NameBinding ℕ → Type 0
IsAbove n b = n < b.bound

-- of processes from a creation number on
abbrev pub ChildrenLater : ℕ → List Process → Type 0
ChildrenLater n [] = Unit {0}
ChildrenLater n (p ∷ ps) = AllByRecursion (IsAbove n) p.children × ChildrenLater (suc n) ps

-- a process whose children were made after it in place of another
set_later : (n k : ℕ) (ps : List Process) (q : Process) → AllByRecursion (IsAbove (n + k)) q.children
    → ChildrenLater n ps → ChildrenLater n (slice_set ps k q)
set_later n zero [] q above later = tt
set_later n (suc k) [] q above later = tt
set_later n zero (r ∷ ps) q above later =
    let same : n + 0 ≡ n = omega arith in
    (subst (λ (m : ℕ). AllByRecursion (IsAbove m) q.children) same above, later.1)
set_later n (suc k) (r ∷ ps) q above later =
    let same : n + suc k ≡ suc n + k = omega arith in
    (later.0, set_later (suc n) k ps q (subst (λ (m : ℕ). AllByRecursion (IsAbove m) q.children) same above) later.1)

-- the children of a process were made after it
get_later : (n k : ℕ) (ps : List Process) (p : Process) → slice_get ps k ≡ Some p → ChildrenLater n ps
    → AllByRecursion (IsAbove (n + k)) p.children
get_later n zero [] p is later = absurd cc
get_later n (suc k) [] p is later = absurd cc
get_later n zero (r ∷ ps) p is later =
    let first : r ≡ p = cc in
    let same : n ≡ n + 0 = omega arith in
    subst (λ (m : ℕ). AllByRecursion (IsAbove m) p.children) same
    (subst (λ (x : Process). AllByRecursion (IsAbove n) x.children) first later.0)
get_later n (suc k) (r ∷ ps) p is later =
    let same : suc n + k ≡ n + suc k = omega arith in
    subst (λ (m : ℕ). AllByRecursion (IsAbove m) p.children) same (get_later (suc n) k ps p is later.1)

-- a process without children at the end
append_later : (n : ℕ) (ps : List Process) (q : Process) → q.children ≡ [] → ChildrenLater n ps
    → ChildrenLater n (ps ++ q ∷ [])
append_later n [] q none later = (subst (AllByRecursion (IsAbove n)) (sym none) tt, tt)
append_later n (p ∷ ps) q none later = (later.0, append_later (suc n) ps q none later.1)

abbrev pub Ordered : Core → Type 0
Ordered c = ChildrenLater 0 c.processes

found_above : (number : ℕ) (p : Process) (c : Core) → slice_get c.processes number ≡ Some p → Ordered c
    → AllByRecursion (IsAbove (0 + number)) p.children
found_above number p c is ordered = get_later 0 number c.processes p is ordered

-- a process with the same children in place of another
with_ordered : (number : ℕ) (p q : Process) (c : Core) → slice_get c.processes number ≡ Some p → q.children ≡ p.children
    → Ordered c → Ordered (with_process number q c)
with_ordered number p q c is same ordered =
    set_later 0 number c.processes q
    (subst (AllByRecursion (IsAbove (0 + number))) (sym same) (found_above number p c is ordered)) ordered

-- of no file anything is to be known
abbrev pub Any : List ℕ → Type 0
Any path = Unit {0}

kept_ordered : (number : ℕ) (p q : Process) (c : Core) → slice_get c.processes number ≡ Some p → Keeps Any p q → Ordered c
    → Ordered (with_process number q c)
kept_ordered number p q c is keeps ordered = with_ordered number p q c is keeps.children ordered

files_ordered : (number : ℕ) (p : Process) (e : FileEffect) (c : Core) → slice_get c.processes number ≡ Some p
    → Keeps Any p e.process → Ordered c → Ordered (on_files number e c).core
files_ordered number p e c is keeps ordered = with_ordered number p e.process c is keeps.children ordered

-- the creation number of a process is below the number made
pub found_below : (ps : List Process) (k : ℕ) (p : Process) → slice_get ps k ≡ Some p → k < length ps
found_below [] zero p is = absurd cc
found_below [] (suc k) p is = absurd cc
found_below (r ∷ ps) zero p is = omega arith
found_below (r ∷ ps) (suc k) p is = omega (arith, found_below ps k p is)

unbound_above : (m : ℕ) (name : List ℕ) (bs : List (NameBinding ℕ)) → AllByRecursion (IsAbove m) bs
    → AllByRecursion (IsAbove m) (unbind name bs)
unbound_above m name [] above = tt
unbound_above m name (b ∷ bs) above = elim (cases_Bool (is_bound name b)) [
  | inl hit ↦ rw hit (unbound_above m name bs above.1)
  | inr miss ↦ rw miss (above.0, unbound_above m name bs above.1)
]

spawned_ordered : (o : Option (List Instr)) (spawning : SpawnRequest) (path : List ℕ) (number : ℕ) (p : Process) (c : Core)
    → slice_get c.processes number ≡ Some p → Ordered c → Ordered (spawn_script o spawning path number p c).core
spawned_ordered None spawning path number p c is ordered = with_ordered number p _ c is refl ordered
spawned_ordered (Some script) spawning path number p c is ordered =
    let below : 0 + number < length c.processes = omega (arith, found_below c.processes number p is) in
    let parent : Process = parent_of (length c.processes) spawning.child p in
    let above : AllByRecursion (IsAbove (0 + number)) parent.children =
    (below, unbound_above (0 + number) spawning.child p.children (found_above number p c is ordered)) in
    append_later 0 (slice_set c.processes number parent) (child_of p script spawning.arguments) refl
    (set_later 0 number c.processes parent above ordered)

file_ordered : (o : Option (List ℕ)) (spawning : SpawnRequest) (path : List ℕ) (number : ℕ) (p : Process) (c : Core)
    → slice_get c.processes number ≡ Some p → Ordered c → Ordered (spawn_file o spawning path number p c).core
file_ordered None spawning path number p c is ordered = with_ordered number p _ c is refl ordered
file_ordered (Some bytes) spawning path number p c is ordered =
    spawned_ordered (script_within c bytes) spawning path number p c is ordered

path_ordered : (o : Option (List ℕ)) (spawning : SpawnRequest) (number : ℕ) (p : Process) (c : Core)
    → slice_get c.processes number ≡ Some p → Ordered c → Ordered (spawn_path o spawning number p c).core
path_ordered None spawning number p c is ordered = with_ordered number p _ c is refl ordered
path_ordered (Some path) spawning number p c is ordered =
    file_ordered (content_at c.files path) spawning path number p c is ordered

until_ordered : (o : Option ℕ) (child : ℕ) (to : List ℕ) (number : ℕ) (p : Process) (c : Core)
    → slice_get c.processes number ≡ Some p → Ordered c → Ordered (wait_until o child to number p c).core
until_ordered None child to number p c is ordered = ordered
until_ordered (Some status) child to number p c is ordered = with_ordered number p _ c is refl ordered

wait_ordered : (o : Option ℕ) (to : List ℕ) (number : ℕ) (p : Process) (c : Core)
    → slice_get c.processes number ≡ Some p → Ordered c → Ordered (wait_for o to number p c).core
wait_ordered None to number p c is ordered = with_ordered number p _ c is refl ordered
wait_ordered (Some child) to number p c is ordered =
    until_ordered (status_in c.processes child) child to number p c is ordered

executes_ordered : (i : Instr) (number : ℕ) (p : Process) (c : Core) → slice_get c.processes number ≡ Some p → Ordered c
    → Ordered (execute i number p c).core
executes_ordered (instr.Let to value) number p c is ordered = with_ordered number p _ c is refl ordered
executes_ordered (instr.Calc to op left right) number p c is ordered =
    let v = operand_value p left in
    let w = operand_value p right in
    kept_ordered number p _ c is (keeps_assign Any to (calculation op v w) p (calculated_byte op v w)) ordered
executes_ordered (instr.Glue to left right) number p c is ordered =
    kept_ordered number p _ c is (keeps_glue Any to (operand_value p left) (operand_value p right) p) ordered
executes_ordered (instr.ToInt to value) number p c is ordered =
    let v = operand_value p value in
    kept_ordered number p _ c is (keeps_assign Any to (to_number v) p (to_number_byte v)) ordered
executes_ordered (instr.Cut before after by) number p c is ordered =
    kept_ordered number p _ c is
    (keeps_cut Any before after (operand_value p by) (operand_value p (Variable after)) p) ordered
executes_ordered (instr.Jump place) number p c is ordered = with_ordered number p _ c is refl ordered
executes_ordered (instr.JumpIf op left right place) number p c is ordered =
    let goes = meets op (order (operand_value p left) (operand_value p right)) in
    kept_ordered number p _ c is (keeps_jump Any goes place p) ordered
executes_ordered (instr.Print operands) number p c is ordered =
    kept_ordered number p _ c is (keeps_line Any (printed_line (operand_values p operands)) p) ordered
executes_ordered (instr.Exit code) number p c is ordered = with_ordered number p _ c is refl ordered
executes_ordered (instr.OpenPath file mode path place) number p c is ordered =
    files_ordered number p (open_path file mode (path_at path p) place p c.files) c is (keeps_open Any file mode (path_at path p) place p c.files (λ q here. tt)) ordered
executes_ordered (instr.ReadLine to file place) number p c is ordered =
    files_ordered number p (read_next (open_for allows_read file p) to file place p c.files) c is
    (keeps_read Any (open_for allows_read file p) to file place p c.files (λ f all here. tt)) ordered
executes_ordered (instr.WriteLine file operands) number p c is ordered =
    files_ordered number p (write_line file operands p c.files) c is
    (keeps_write Any (open_for allows_write file p) (printed_line (operand_values p operands)) p c.files) ordered
executes_ordered (instr.CopyRest source target) number p c is ordered =
    files_ordered number p (copy_rest source target p c.files) c is
    (keeps_copy Any source (open_for allows_read source p) (open_for allows_write target p) p c.files (λ f all here. tt)) ordered
executes_ordered (instr.Close file) number p c is ordered =
    kept_ordered number p _ c is (keeps_close Any (lookup file p.files) file p) ordered
executes_ordered (instr.Remove path place) number p c is ordered =
    files_ordered number p (remove_path (path_at path p) place p c.files) c is (keeps_remove Any (path_at path p) place p c.files) ordered
executes_ordered (instr.Exists to path) number p c is ordered =
    files_ordered number p (test_path to (path_at path p) p c.files) c is (keeps_test Any to (path_at path p) p c.files) ordered
executes_ordered (instr.Spawn child path arguments place) number p c is ordered =
    path_ordered (path_at path p) (spawning_of child arguments place p) number p c is ordered
executes_ordered (instr.Wait to child) number p c is ordered =
    wait_ordered (lookup child p.children) to number p c is ordered
executes_ordered (instr.Sql cursor text params) number p c is ordered = with_ordered number p _ c is refl ordered
executes_ordered (instr.Fetch cursor to place) number p c is ordered =
    kept_ordered number p _ c is (keeps_fetch Any (lookup cursor p.cursors) cursor to place p) ordered
executes_ordered (instr.Count to cursor) number p c is ordered =
    let o = lookup cursor p.cursors in
    kept_ordered number p _ c is (keeps_assign Any to (row_count o) p (counted_byte o)) ordered
executes_ordered (instr.Status to cursor) number p c is ordered =
    let o = lookup cursor p.cursors in
    kept_ordered number p _ c is (keeps_assign Any to (status_value o) p (status_value_byte o)) ordered

next_ordered : (i : Option Instr) (number : ℕ) (p : Process) (c : Core) → slice_get c.processes number ≡ Some p → Ordered c
    → Ordered (execute_next i number p c).core
next_ordered None number p c is ordered = with_ordered number p _ c is refl ordered
next_ordered (Some i) number p c is ordered = executes_ordered i number p c is ordered

quiet_ordered : (o : Option Process) (number : ℕ) (c : Core) → slice_get c.processes number ≡ o → Ordered c → Ordered (local_step_of o number c).core
quiet_ordered None number c is ordered = ordered
quiet_ordered (Some p) number c is ordered = next_ordered (slice_get p.script p.place) number p c is ordered

took_ordered : (o : Option Process) (number : ℕ) (a : Ask) (reply : Reply) (c : Core) → slice_get c.processes number ≡ o → Ordered c
    → Ordered (took_of o number a reply c)
took_ordered None number a reply c is ordered = ordered
took_ordered (Some p) number a reply c is ordered = with_ordered number p (process_with_reply a reply p) c is refl ordered

module _ {Db : Type 0} where
  told_ordered : (number : ℕ) (a : Ask) (s : State Db) (x : Answer Db) → Ordered s.core → Ordered (told number a s x).state.core
  told_ordered number a s (Gives reply db lists) ordered = took_ordered (slice_get s.core.processes number) number a reply s.core refl ordered
  told_ordered number a s Diverges ordered = ordered

module _ {Db : Type 0} (base : Base Db) where
  asking_ordered : (number : ℕ) (s : State Db) (o : Option Ask) → Ordered s.core → Ordered (asking base number s o).state.core
  asking_ordered number s None ordered = quiet_ordered (slice_get s.core.processes number) number s.core refl ordered
  asking_ordered number s (Some a) ordered = told_ordered number a s (base s.db a.question) ordered

  pub move_ordered : (number : ℕ) (s : State Db) → Ordered s.core → Ordered (move_of base number s).state.core
  move_ordered number s ordered = asking_ordered number (chosen number s) (next_ask number (chosen number s).core) ordered

  run_ordered : (n : ℕ) (picks : List ℕ) (s : State Db) → Ordered s.core → Ordered (run base n picks s).core
  run_ordered zero picks s ordered = subst (λ (t : State Db). Ordered t.core) (sym (run-zero base picks s)) ordered
  run_ordered (suc n) picks s ordered = elim (cases_Bool (is_over s.core)) [
    | inl over ↦ subst (λ (t : State Db). Ordered t.core) (sym (run-over base (suc n) picks s over)) ordered
    | inr going ↦
        subst (λ (t : State Db). Ordered t.core) (sym (run-suc base n picks s going))
        (run_ordered n (later_picks picks) (move base (first_pick picks) s).state (move_ordered (choose (first_pick picks) s.core) s ordered))
  ]

-- ---- some process may run

-- what is found among processes that have all ended doesn't run
none_runs : (ps : List Process) (k : ℕ) → list_all has_ended ps ≡ true → still_runs (slice_get ps k) ≡ false
none_runs [] zero ended = refl
none_runs [] (suc k) ended = refl
none_runs (p ∷ ps) zero ended = ended_rests p.status (and_parts (has_ended p) (list_all has_ended ps) ended).0
  where
    ended_rests : (o : Option ℕ) → is_some o ≡ true → is_none o ≡ false
    ended_rests None some = cc
    ended_rests (Some status) some = refl
none_runs (p ∷ ps) (suc k) ended = none_runs ps k (and_parts (has_ended p) (list_all has_ended ps) ended).1

-- a child is among those that were made after its process
lookup_above : (n : ℕ) (name : List ℕ) (bs : List (NameBinding ℕ)) (child : ℕ) → AllByRecursion (IsAbove n) bs → lookup name bs ≡ Some child → n < child
lookup_above n name [] child above is = absurd cc
lookup_above n name (b ∷ bs) child above is = elim (cases_Bool (is_bound name b)) [
  | inl hit ↦ let found : Some b.bound ≡ Some child = rw hit at is in let same : b.bound ≡ child = cc in subst (λ (k : ℕ). n < k) same above.0
  | inr miss ↦ lookup_above n name bs child above.1 (rw miss at is)
]

module _ (all : List Process) where
  -- all processes from a creation number on, and none of them may be missed
  abbrev IsRest : ℕ → List Process → Type 0
  IsRest n ps = (k : ℕ) → slice_get all (n + k) ≡ slice_get ps k

  rest_later : (n : ℕ) (p : Process) (ps : List Process) → IsRest n (p ∷ ps) → IsRest (suc n) ps
  rest_later n p ps rest k = let same : suc n + k ≡ n + suc k = omega arith in ap (slice_get all) same ∙ rest (suc k)

  waits_below : (n : ℕ) (p : Process) (ps : List Process) → IsRest n (p ∷ ps) → list_all has_ended ps ≡ true → (o : Option ℕ)
      → ((child : ℕ) → o ≡ Some child → n < child) → waits_for o all ≡ false
  waits_below n p ps rest ended None above = refl
  waits_below n p ps rest ended (Some child) above =
      let over : n < child = above child refl in
      let split : suc n + (child - suc n) ≡ child = omega (arith, over) in
      ap (λ (k : ℕ). still_runs (slice_get all k)) (sym split)
      ∙ ap still_runs (rest_later n p ps rest (child - suc n))
      ∙ none_runs ps (child - suc n) ended

  -- the last process that hasn't ended doesn't wait
  last_rests : (i : Option Instr) (n : ℕ) (p : Process) (ps : List Process) → IsRest n (p ∷ ps) → list_all has_ended ps ≡ true
      → AllByRecursion (IsAbove n) p.children → is_waiting i p all ≡ false
  last_rests None n p ps rest ended above = refl
  last_rests (Some (instr.Wait to child)) n p ps rest ended above =
      waits_below n p ps rest ended (lookup child p.children) (λ k is. lookup_above n child p.children k above is)
  last_rests (Some other) n p ps rest ended above = refl

  abbrev IsNumbered : ℕ → Type 0
  IsNumbered number = (p : Process) × (slice_get all number ≡ Some p) × (is_runnable all p ≡ true)

  -- each number of a runnable process
  each_runs : (n : ℕ) (ps : List Process) → IsRest n ps → AllByRecursion IsNumbered (runnable_from n all ps)
  each_runs n [] rest = tt
  each_runs n (p ∷ ps) rest =
      let here : slice_get all n ≡ Some p = let none : n ≡ n + 0 = omega arith in ap (slice_get all) none ∙ rest 0 in
      let next : suc n ≡ n + 1 = omega arith in
      let later : AllByRecursion IsNumbered (runnable_from (n + 1) all ps) = subst (λ (k : ℕ). AllByRecursion IsNumbered (runnable_from k all ps)) next (each_runs (suc n) ps (rest_later n p ps rest)) in
      elim (cases_Bool (is_runnable all p)) [
        | inl runs ↦ rw runs ((p, here, runs), later)
        | inr rests ↦ rw rests later
      ]

  goes : (o : Option ℕ) → is_some o ≡ false → is_none o ≡ true
  goes None none = refl
  goes (Some status) none = cc

  some_runs : (n : ℕ) (ps : List Process) → IsRest n ps → ChildrenLater n ps → list_all has_ended ps ≡ false → 1 ≤ length (runnable_from n all ps)
  some_runs n [] rest later going = cc
  some_runs n (p ∷ ps) rest later going = elim (cases_Bool (list_all has_ended ps)) [
    | inr more ↦
        let next : suc n ≡ n + 1 = omega arith in
        let there : 1 ≤ length (runnable_from (n + 1) all ps) = subst (λ (k : ℕ). 1 ≤ length (runnable_from k all ps)) next (some_runs (suc n) ps (rest_later n p ps rest) later.1 more) in
        elim (cases_Bool (is_runnable all p)) [
          | inl runs ↦ rw runs (omega (arith, there))
          | inr rests ↦ rw rests there
        ]
    | inl ended ↦
        let alive : has_ended p ≡ false = first_false (has_ended p) (rw ended at going) in
        let free : is_waiting (slice_get p.script p.place) p all ≡ false = last_rests (slice_get p.script p.place) n p ps rest ended later.0 in
        let runs : is_runnable all p ≡ true = and_from (is_none p.status) (not (is_waiting (slice_get p.script p.place) p all)) (goes p.status alive) (ap not free) in
        rw runs (omega arith)
  ]
    where
      first_false : (b : Bool) → (b && true) ≡ false → b ≡ false
      first_false true h = h
      first_false false h = refl

-- ---- the one that is chosen

module _ (P : ℕ → Type 0) where
  at_index : (ns : List ℕ) (k : ℕ) → AllByRecursion P ns → k < length ns → P (slice_index ns k)
  at_index [] k all below = absurd (omega (arith, below))
  at_index (n ∷ ns) zero all below = all.0
  at_index (n ∷ ns) (suc k) all below = at_index ns k all.1 (omega (arith, below))

  in_round : (ns : List ℕ) (k : ℕ) → AllByRecursion P ns → 1 ≤ length ns → P (pick_in ns k)
  in_round ns k all some = at_index ns (k % length ns) all (mod_below k (length ns) some)
    where
      mod_below : (k n : ℕ) → 1 ≤ n → k % n < n
      mod_below k n some = omega (arith, some)

  found_holds : (test : ℕ → Bool) (ns : List ℕ) (n : ℕ) → AllByRecursion P ns → find test ns ≡ Some n → P n
  found_holds test [] n all is = absurd cc
  found_holds test (m ∷ ns) n all is = elim (cases_Bool (test m)) [
    | inl hit ↦ let e : Some m ≡ Some n = rw hit at is in let same : m ≡ n = cc in subst P same all.0
    | inr miss ↦ found_holds test ns n all.1 (rw miss at is)
  ]

  next_holds : (o : Option ℕ) (ns : List ℕ) → AllByRecursion P ns → 1 ≤ length ns → ((n : ℕ) → o ≡ Some n → P n) → P (next_or_least o ns)
  next_holds None ns all some found = at_index ns 0 all (omega (arith, some))
  next_holds (Some n) ns all some found = found n refl

  pick_holds : (seed last x : ℕ) (ns : List ℕ) → AllByRecursion P ns → 1 ≤ length ns → P (pick_of seed last x ns)
  pick_holds seed last x ns all some = elim (cases_Bool (seed == 0)) [
    | inl still ↦ rw still (next_holds (find (nat_lt last) ns) ns all some (λ n is. found_holds (nat_lt last) ns n all is))
    | inr other ↦ rw other (in_round ns (x / 2 ^ 33) all some)
  ]

pub chosen_runs : (pick : Option ℕ) (c : Core) → Ordered c → have_all_ended c ≡ false → MayRun (choose pick c) c
chosen_runs pick c ordered going =
    let whole : IsRest c.processes 0 c.processes = λ k. let same : 0 + k ≡ k = omega arith in ap (slice_get c.processes) same in
    let all : AllByRecursion (IsNumbered c.processes) (runnable_processes c) = each_runs c.processes 0 c.processes whole in
    let some : 1 ≤ length (runnable_processes c) = some_runs c.processes 0 c.processes whole ordered going in
    by pick all some
  where
    by : (pick : Option ℕ) → AllByRecursion (IsNumbered c.processes) (runnable_processes c) → 1 ≤ length (runnable_processes c) → MayRun (choose pick c) c
    by None all some = pick_holds (IsNumbered c.processes) c.seed c.last (moved_x c.seed c.x) (runnable_processes c) all some
    by (Some k) all some = in_round (IsNumbered c.processes) (runnable_processes c) k all some

pub never_stuck : (Db : Type 0) → NeverStuckLaw Db
never_stuck Db base n picks start seed files script db pick going =
    chosen_runs pick (run base n picks (start_state_of start seed files script db)).core (run_ordered base n picks (start_state_of start seed files script db) (tt, tt)) going
