-- A step of a run over recorded replies, seen by name: it's the deed of the process's name.
use Rattle.std.proofs.Common.{◌≡◌, ◌≢◌, ℕ, zero, suc, ◌+◌, ◌<◌, List, [], ◌∷◌, ◌++◌, length, refl, sym, ap, ◌∙◌, subst, Bool, true, false, arith, inl, inr}
use Rattle.std.specs.Prelude.{Option, Some, None, is_some, is_none, map, not, ◌&&◌, ◌||◌, if◌then◌else◌, drop, option_map, option_and_then, bytes_eq, slice_get, slice_set, nat_lt, pos}
use Rattle.std.specs.List.{AllByRecursion}
use Rattle.std.proofs.lemmas.Bool.{cases_Bool, and_parts}
use Rattle.std.proofs.lemmas.List.{append-nil, length-map, length-append, map-append, append_assoc}
use Rattle.ldv_value.specs.FileState.{FileState, content_at, is_there, FileRefusal, open_refusal, has_room, rest_at, read_line}
use Rattle.ldv_value.specs.Limits.{max_processes}
use Rattle.ldv_value.specs.Order.{order, meets}
use Rattle.ldv_value.specs.declared.file.OpenMode.TheVariants as modes
use Rattle.ldv_value.proofs.Booleans.{or-false, or-true, not-true}
use Rattle.ldv_value.proofs.Cases.{cases-option}
use Rattle.ldv_value.proofs.Lists.{all-weaker}
use Rattle.ldv_value.proofs.Options.{same-some, is_none-true}
use Rattle.ldv_value.proofs.SameBytes.{bytes_eq-true, bytes_eq-itself, bytes_eq-other}
use Rattle.script_parse.specs.declared.script.Instr.TheVariants as instr
use Rattle.free_order.specs.Types.{OpenMode, Value, Null, Int, Text, Variable, Instr, Act, Started, Spawned, Unspawned, OpenedRead, OpenedWrite, OpenedAppend, OpenedNew, Unopened, Read, Wrote, Removed, Tested, Waited, Ended, Asked, Reply, Entry}
use Rattle.run_model.specs.Core.{NameBinding, lookup, bind, OpenFile, Process, Core, with_process}
use Rattle.run_model.specs.Database.{Question, Answer, Gives, Diverges}
use Rattle.run_model.specs.LogDatabase.{LogDatabase, entries_left, logs_after, no_lists, is_recorded, answer_from, log_base}
use Rattle.run_model.specs.Schedule.{still_runs, waits_for, is_waiting, is_runnable}
use Rattle.run_model.specs.State.{State, StepResult}
use Rattle.run_model.specs.Step.{Ask, process_with_reply, Effect, own, execute, execute_next, local_step, ask_of_instr, ask_of_process, next_ask, local_step_of, took_of, took, core_at_divergence, end_acts, status_acts, ends_at, kept_by, kept, told, asking, step}
use Rattle.run_model.specs.StepBase.{operand_value, operand_values, with_exit_status, went_on, went_to, with_variable, process_effect, FileEffect, on_files}
use Rattle.run_model.specs.StepFiles.{path_at, allows_read, allows_write, open_for, open_unless, open_path, read_next, write_where, write_text, copy_where, copy_between, remove_found, remove_path, test_path}
use Rattle.run_model.specs.StepProcesses.{SpawnRequest, child_of, parent_of, with_child, spawn_script, script_within, spawn_file, spawn_path, spawning_of, status_in, wait_until, wait_for}
use Rattle.run_model.specs.StepReplies.{ask, row_count, status_value}
use Rattle.run_model.specs.StepVariables.{calculation, concatenation, to_number, printed_line, exit_status}
use Rattle.run_laws.proofs.ProcessNames.{name_of, names, names_set, Distinct, Named, child_named}
use Rattle.run_laws.proofs.ProcessPlaces.{set_there, set_other, set_length, found_all, set_all}
use Rattle.ldv_value.proofs.ItemLists.{all_append}
use Rattle.run_laws.proofs.Askers.{next_named}
use Rattle.run_laws.proofs.LogEntries.{left_after, left_other}
use Rattle.free_order.proofs.Boards.{Solo, Board, Use, use_of, Change, Still, Sets, Deed, Move, opens_unless, opens, reads, writes_where, room_for, writes, rest_of, copies_where, copies, removes_where, removes, tests, noting, plain, moved, child_name, spawns_script, script_in, spawns_file, spawns, waits_until, waits, asks_next, asks, stopping, taking, deed_of, deed_by, next_of, deed, free_for, is_free, born_count, applied, May, status_of}
use Rattle.run_model.specs.Acts.{spawned_by}
use Rattle.free_order.proofs.Boards as boards
use Rattle.free_order.proofs.ByName.{named, at_number, kids_of, dress, bare, solo_of, solos, board_of, files_after, bytes_after, touched_after, put_solo, named_set, named_one, named_found, IsBelow, KidsBelow, solo_more, kids_bound, lookup_kids, unbound_below, found_below, there_below, name_at, solos_set, solos_there}
use Rattle.free_order.proofs.DeedFacts.{fine_at}
use Rattle.free_order.proofs.Dressed.{assign_dressed, cut_dressed, jump_dressed, line_dressed, fetch_dressed, close_dressed, take_dressed}

-- ---- the paths that acts name

abbrev pub use_in : Act → List Use
use_in (Started path) = use_of path false ∷ []
use_in (Spawned path) = use_of path false ∷ []
use_in (Unspawned path found) = use_of path false ∷ []
use_in (OpenedRead path) = use_of path false ∷ []
use_in (OpenedWrite path) = use_of path true ∷ []
use_in (OpenedAppend path found) = use_of path true ∷ []
use_in (OpenedNew path) = use_of path true ∷ []
use_in (Unopened path found) = use_of path false ∷ []
use_in (Read path) = use_of path false ∷ []
use_in (Wrote path) = use_of path true ∷ []
use_in (Removed path) = use_of path true ∷ []
use_in (Tested path found) = use_of path false ∷ []
use_in (Waited child) = []
use_in (Ended status) = []
use_in (Asked statement tables reads made) = []

abbrev pub uses_of : List Act → List Use
uses_of [] = []
uses_of (act ∷ acts) = use_in act ++ uses_of acts

uses_append : (xs ys : List Act) → uses_of (xs ++ ys) ≡ uses_of xs ++ uses_of ys
uses_append [] ys = refl
uses_append (x ∷ xs) ys =
    ap (λ (l : List Use). use_in x ++ l) (uses_append xs ys) ∙ sym (append_assoc (use_in x) (uses_of xs) (uses_of ys))

status_unused : (o : Option ℕ) → uses_of (status_acts o) ≡ []
status_unused None = refl
status_unused (Some status) = refl

end_unused : (o : Option Process) → uses_of (end_acts o) ≡ []
end_unused None = refl
end_unused (Some p) = status_unused p.status

uses_kept : (acts : List Act) (k : ℕ) (c : Core) → uses_of (acts ++ ends_at k c) ≡ uses_of acts
uses_kept acts k c =
    uses_append acts (ends_at k c)
    ∙ ap (λ (l : List Use). uses_of acts ++ l) (end_unused (slice_get c.processes k))
    ∙ append-nil (uses_of acts)

-- how many processes acts made

abbrev pub births_of : List Act → ℕ
births_of [] = 0
births_of (act ∷ acts) = spawned_by act + births_of acts

births_append : (xs ys : List Act) → births_of (xs ++ ys) ≡ births_of xs + births_of ys
births_append [] ys = omega arith
births_append (x ∷ xs) ys = let rest : births_of (xs ++ ys) ≡ births_of xs + births_of ys = births_append xs ys in omega (arith, rest)

status_unborn : (o : Option ℕ) → births_of (status_acts o) ≡ 0
status_unborn None = refl
status_unborn (Some status) = refl

end_unborn : (o : Option Process) → births_of (end_acts o) ≡ 0
end_unborn None = refl
end_unborn (Some p) = status_unborn p.status

births_kept : (acts : List Act) (k : ℕ) (c : Core) → births_of (acts ++ ends_at k c) ≡ births_of acts
births_kept acts k c =
    let both : births_of (acts ++ ends_at k c) ≡ births_of acts + births_of (ends_at k c) = births_append acts (ends_at k c) in
    let none : births_of (ends_at k c) ≡ 0 = end_unborn (slice_get c.processes k) in
    omega (arith, both, none)

-- ---- what a step comes to

abbrev pub AllBelow : List Process → Type 0
AllBelow ps = AllByRecursion (KidsBelow (length ps)) ps

pub record Mirrors (b : Board) (who : List ℕ) (d : Deed) (m : StepResult LogDatabase) : Type 0 where
  pub board : board_of m.state ≡ applied who d b
  pub uses : uses_of m.acts ≡ d.uses
  pub births : births_of m.acts ≡ born_count d.born
  pub below : AllBelow m.state.core.processes

-- a process after a step, with its children and without
record Worn (p q y : Process) : Type 0 where
  whole : q ≡ dress p.children y
  bared : dress [] y ≡ y

-- ---- steps that look at the files

record MoveMirrors (p : Process) (s : FileState) (e : FileEffect) (m : Move) : Type 0 where
  worn : Worn p e.process m.process
  files : e.files ≡ files_after m.change s
  uses : uses_of e.acts ≡ m.uses
  births : births_of e.acts ≡ 0

unless_mirror : (r : Option FileRefusal) (found : Bool) (name : List ℕ) (mode : OpenMode) (path : List ℕ) (place : ℕ) (p : Process)
    (s : FileState) → MoveMirrors p s (open_unless r found name mode path place p s) (opens_unless r (content_at s path) name mode path place (bare p))
unless_mirror (Some refusal) found name mode path place p s =
    record { worn = record { whole = refl; bared = refl }; files = refl; uses = refl; births = refl }
unless_mirror None found name modes.Read path place p s =
    record { worn = record { whole = refl; bared = refl }; files = refl; uses = refl; births = refl }
unless_mirror None found name modes.Write path place p s =
    record { worn = record { whole = refl; bared = refl }; files = refl; uses = refl; births = refl }
unless_mirror None found name modes.Append path place p s =
    record { worn = record { whole = refl; bared = refl }; files = refl; uses = refl; births = refl }
unless_mirror None found name modes.New path place p s =
    record { worn = record { whole = refl; bared = refl }; files = refl; uses = refl; births = refl }

opens_mirror : (name : List ℕ) (mode : OpenMode) (o : Option (List ℕ)) (place : ℕ) (p : Process) (s : FileState)
    → MoveMirrors p s (open_path name mode o place p s) (opens name mode o place (bare p) (content_at s))
opens_mirror name mode None place p s = record { worn = record { whole = refl; bared = refl }; files = refl; uses = refl; births = refl }
opens_mirror name mode (Some path) place p s =
    unless_mirror (open_refusal mode (is_there s path)) (is_there s path) name mode path place p s

reads_mirror : (o : Option OpenFile) (to name : List ℕ) (place : ℕ) (p : Process) (s : FileState)
    → MoveMirrors p s (read_next o to name place p s) (reads o to name place (bare p) (content_at s))
reads_mirror None to name place p s = record { worn = record { whole = refl; bared = refl }; files = refl; uses = refl; births = refl }
reads_mirror (Some file) to name place p s =
    let r = read_line s file.path file.place in
    record {
      worn = record {
        whole = take_dressed p.children r to name file place (bare p);
        bared = sym (take_dressed [] r to name file place (bare p));
      };
      files = refl;
      uses = refl;
      births = refl;
    }

where_mirror : (fits : Bool) (file : OpenFile) (text : List ℕ) (p : Process) (s : FileState)
    → MoveMirrors p s (write_where fits file text p s) (writes_where fits (content_at s file.path) file text (bare p))
where_mirror false file text p s = record { worn = record { whole = refl; bared = refl }; files = refl; uses = refl; births = refl }
where_mirror true file text p s = record { worn = record { whole = refl; bared = refl }; files = refl; uses = refl; births = refl }

writes_mirror : (o : Option OpenFile) (text : List ℕ) (p : Process) (s : FileState)
    → MoveMirrors p s (write_text o text p s) (writes o text (bare p) (content_at s))
writes_mirror None text p s = record { worn = record { whole = refl; bared = refl }; files = refl; uses = refl; births = refl }
writes_mirror (Some file) text p s = where_mirror (has_room s file.path (length text)) file text p s

copied_mirror : (fits : Bool) (name : List ℕ) (source target : OpenFile) (p : Process) (s : FileState)
    → MoveMirrors p s (copy_where fits name source target p s)
    (copies_where fits (rest_at s source.path source.place) (content_at s target.path) name source target (bare p))
copied_mirror false name source target p s = record { worn = record { whole = refl; bared = refl }; files = refl; uses = refl; births = refl }
copied_mirror true name source target p s = record { worn = record { whole = refl; bared = refl }; files = refl; uses = refl; births = refl }

copies_mirror : (name : List ℕ) (o r : Option OpenFile) (p : Process) (s : FileState)
    → MoveMirrors p s (copy_between name o r p s) (copies name o r (bare p) (content_at s))
copies_mirror name None r p s = record { worn = record { whole = refl; bared = refl }; files = refl; uses = refl; births = refl }
copies_mirror name (Some source) None p s = record { worn = record { whole = refl; bared = refl }; files = refl; uses = refl; births = refl }
copies_mirror name (Some source) (Some target) p s =
    copied_mirror (has_room s target.path (length (rest_at s source.path source.place))) name source target p s

found_mirror : (found : Bool) (path : List ℕ) (place : ℕ) (p : Process) (s : FileState)
    → MoveMirrors p s (remove_found found path place p s) (removes_where found path place (bare p))
found_mirror false path place p s = record { worn = record { whole = refl; bared = refl }; files = refl; uses = refl; births = refl }
found_mirror true path place p s = record { worn = record { whole = refl; bared = refl }; files = refl; uses = refl; births = refl }

removes_mirror : (o : Option (List ℕ)) (place : ℕ) (p : Process) (s : FileState)
    → MoveMirrors p s (remove_path o place p s) (removes o place (bare p) (content_at s))
removes_mirror None place p s = record { worn = record { whole = refl; bared = refl }; files = refl; uses = refl; births = refl }
removes_mirror (Some path) place p s = found_mirror (is_there s path) path place p s

tests_mirror : (to : List ℕ) (o : Option (List ℕ)) (p : Process) (s : FileState)
    → MoveMirrors p s (test_path to o p s) (tests to o (bare p) (content_at s))
tests_mirror to None p s = record { worn = record { whole = refl; bared = refl }; files = refl; uses = refl; births = refl }
tests_mirror to (Some path) p s = record { worn = record { whole = refl; bared = refl }; files = refl; uses = refl; births = refl }

-- ---- names that differ

last_apart : (ns : List (List ℕ)) (m : List ℕ) → Distinct (ns ++ m ∷ []) → AllByRecursion (λ (n : List ℕ). n ≢ m) ns
last_apart [] m distinct = tt
last_apart (n ∷ ns) m distinct = (last_of ns distinct.0, last_apart ns m distinct.1)
  where
    last_of : (ns : List (List ℕ)) → AllByRecursion (λ (k : List ℕ). n ≢ k) (ns ++ m ∷ []) → n ≢ m
    last_of [] all = all.0
    last_of (k ∷ ns) all = last_of ns all.1

-- ---- a step of the process of a creation number

module _ (k : ℕ) (s : State LogDatabase) (p : Process) (is : slice_get s.core.processes k ≡ Some p)
    (distinct : Named s.core.processes) (below : AllBelow s.core.processes) where
  abbrev c : Core
  c = s.core

  abbrev ps : List Process
  ps = s.core.processes

  abbrev b : Board
  b = board_of s

  abbrev x : Solo
  x = solo_of (names ps) p

  -- the children of the process
  own_below : KidsBelow (length ps) p
  own_below = found_all (KidsBelow (length ps)) ps k p below is

  worn_solo : (q y : Process) → Worn p q y → solo_of (names ps) q ≡ record { own = y; kids = x.kids }
  worn_solo q y worn =
      ap (solo_of (names ps)) worn.whole ∙ (λ j. record { own = worn.bared j; kids = x.kids })

  worn_name : (q y : Process) → Worn p q y → y.name ≡ p.name → q.name ≡ p.name
  worn_name q y worn same = ap name_of worn.whole ∙ same

  abbrev doing : Process → Change → List Use → Deed
  doing y d uses =
      record { after = record { own = y; kids = x.kids }; change = d; born = None; took = false; stops = false; uses = uses }

  abbrev state_with : Process → FileState → State LogDatabase
  state_with q files = record { core = record c { files = files; processes = slice_set ps k q }; db = s.db }

  set_below : (q y : Process) → Worn p q y → AllBelow (slice_set ps k q)
  set_below q y worn =
      let here : KidsBelow (length ps) q =
      subst (λ (bs : List (NameBinding ℕ)). AllByRecursion (IsBelow (length ps)) bs)
      (sym (ap (λ (r : Process). r.children) worn.whole)) own_below in
      subst (λ (n : ℕ). AllByRecursion (KidsBelow n) (slice_set ps k q)) (sym (set_length ps k q))
      (set_all (KidsBelow (length ps)) ps k q here below)

  set_board : (q y : Process) (d : Change) (uses : List Use) → Worn p q y → y.name ≡ p.name
      → board_of (state_with q (files_after d c.files)) ≡ applied p.name (doing y d uses) b
  set_board q y d uses worn same =
      let made : length (slice_set ps k q) ≡ length ps + 0 = let count : length (slice_set ps k q) ≡ length ps = set_length ps k q in omega (arith, count) in
      let solo : (name : List ℕ) → solos (slice_set ps k q) name ≡ boards.solo_after p.name (doing y d uses) b name =
      λ name. solos_set ps distinct.distinct k p is q (worn_name q y worn same) name
      ∙ ap (λ (z : Solo). if bytes_eq name p.name then Some z else solos ps name) (worn_solo q y worn) in
      λ j. record {
        solo = λ name. solo name j;
        bytes = λ path. bytes_after d c.files path j;
        touched = touched_after d c.files j;
        left = b.left;
        made = made j;
        stopped = sym (or-false (is_some c.diverged)) j;
      }

  files_mirror : (e : FileEffect) (m : Move) → MoveMirrors p c.files e m → m.process.name ≡ p.name
      → Mirrors b p.name (moved m x) (kept_by k s.db (on_files k e c))
  files_mirror e m mirrors same = record {
    board =
        ap (λ (f : FileState). board_of (state_with e.process f)) mirrors.files
        ∙ set_board e.process m.process m.change m.uses mirrors.worn same;
    uses = uses_kept e.acts k (on_files k e c).core ∙ mirrors.uses;
    births = births_kept e.acts k (on_files k e c).core ∙ mirrors.births;
    below = set_below e.process m.process mirrors.worn;
  }

  noted_mirror : (q y : Process) (acts : List Act) → births_of acts ≡ 0 → Worn p q y → y.name ≡ p.name
      → Mirrors b p.name (noting y x (uses_of acts)) (kept_by k s.db (process_effect k q acts c))
  noted_mirror q y acts unborn worn same = record {
    board = set_board q y Still (uses_of acts) worn same;
    uses = uses_kept acts k (process_effect k q acts c).core;
    births = births_kept acts k (process_effect k q acts c).core ∙ unborn;
    below = set_below q y worn;
  }

  own_mirror : (q y : Process) → Worn p q y → y.name ≡ p.name → Mirrors b p.name (plain y x) (kept_by k s.db (own k q c))
  own_mirror q y worn same = noted_mirror q y [] refl worn same

  -- ---- spawn

  module _ (script : List Instr) (spawning : SpawnRequest) (path : List ℕ) where
    abbrev parent : Process
    parent = parent_of (length ps) spawning.child p

    abbrev child : Process
    child = child_of p script spawning.arguments

    abbrev front : List Process
    front = slice_set ps k parent

    abbrev made : List Process
    made = with_child k spawning script p ps

    abbrev birth : Deed
    birth = spawns_script (Some script) spawning path x

    names_front : names front ≡ names ps
    names_front = names_set ps k p parent is refl

    names_made : names made ≡ names ps ++ child.name ∷ []
    names_made =
        map-append name_of front (child ∷ []) ∙ ap (λ (ns : List (List ℕ)). ns ++ child.name ∷ []) names_front

    named_made : Named made
    named_made = child_named ps k p is spawning script distinct

    fresh : AllByRecursion (λ (n : List ℕ). n ≢ child.name) (names ps)
    fresh = last_apart (names ps) child.name (subst Distinct names_made named_made.distinct)

    count : length ps ≡ length (names ps)
    count = sym (length-map ps name_of)

    -- the others know the same children
    solo_kept : (o : Option Process) (name : List ℕ) → named name ps ≡ o
        → option_map (solo_of (names ps ++ child.name ∷ [])) o ≡ option_map (solo_of (names ps)) o
    solo_kept None name found = refl
    solo_kept (Some r) name found =
        ap Some
        (solo_more (names ps) child.name r
        (subst (λ (n : ℕ). KidsBelow n r) count (named_found (KidsBelow (length ps)) ps name r below found)))

    parent_solo : solo_of (names ps ++ child.name ∷ []) parent ≡ birth.after
    parent_solo = λ j. record {
      own = birth.after.own;
      kids = kids_bound (names ps) child.name spawning.child p.children (length ps) count own_below j;
    }

    abbrev ns : List (List ℕ)
    ns = names ps ++ child.name ∷ []

    own_apart : bytes_eq p.name child.name ≡ false
    own_apart = bytes_eq-other p.name child.name (found_apart ps k is fresh)
      where
        found_apart : (qs : List Process) (i : ℕ) → slice_get qs i ≡ Some p → AllByRecursion (λ (n : List ℕ). n ≢ child.name) (names qs)
            → p.name ≢ child.name
        found_apart [] zero there all = absurd cc
        found_apart [] (suc i) there all = absurd cc
        found_apart (q ∷ qs) zero there all =
            let same : q ≡ p = cc in subst (λ (r : Process). r.name ≢ child.name) same all.0
        found_apart (q ∷ qs) (suc i) there all = found_apart qs i there all.1

    by_name : (name : List ℕ) → named name made ≡ put_solo child.name child (put_solo p.name parent (named name ps) name) name
    by_name name =
        named_one front child name (subst (λ (l : List (List ℕ)). AllByRecursion (λ (n : List ℕ). n ≢ child.name) l) (sym names_front) fresh)
        ∙ ap (λ (o : Option Process). put_solo child.name child o name) (named_set ps k p parent name distinct.distinct is refl)

    solos_made : (name : List ℕ) → solos made name ≡ boards.solo_after p.name birth b name
    solos_made name =
        let found : solos made name ≡ option_map (solo_of ns) (put_solo child.name child (put_solo p.name parent (named name ps) name) name) =
        λ j. option_map (solo_of (names_made j)) (by_name name j) in
        found ∙ under name
      where
        under : (name : List ℕ) → option_map (solo_of ns) (put_solo child.name child (put_solo p.name parent (named name ps) name) name)
            ≡ boards.solo_after p.name birth b name
        under name = elim (cases_Bool (bytes_eq name p.name)) [
          | inl hit ↦
              let here : name ≡ p.name = bytes_eq-true name p.name hit in
              let miss : bytes_eq name child.name ≡ false = ap (λ (n : List ℕ). bytes_eq n child.name) here ∙ own_apart in
              rw (hit, miss) (ap Some parent_solo)
          | inr other ↦ elim (cases_Bool (bytes_eq name child.name)) [
            | inl hit ↦ rw (other, hit) refl
            | inr miss ↦ rw (other, miss) (solo_kept (named name ps) name refl)
          ]
        ]

    child_board : board_of (record { core = record c { processes = made }; db = s.db }) ≡ applied p.name birth b
    child_board =
        let number : length made ≡ length ps + 1 =
        let first : length made ≡ length front + 1 = length-append front (child ∷ []) in
        let second : length front ≡ length ps = set_length ps k parent in
        omega (arith, first, second) in
        λ j. record {
          solo = λ name. solos_made name j;
          bytes = b.bytes;
          touched = b.touched;
          left = b.left;
          made = number j;
          stopped = sym (or-false (is_some c.diverged)) j;
        }

    child_below : AllBelow made
    child_below =
        let number : length made ≡ length ps + 1 =
        let first : length made ≡ length front + 1 = length-append front (child ∷ []) in
        let second : length front ≡ length ps = set_length ps k parent in
        omega (arith, first, second) in
        let wider : (r : Process) → KidsBelow (length ps) r → KidsBelow (length ps + 1) r =
        λ r all. all-weaker (IsBelow (length ps)) (IsBelow (length ps + 1)) (λ (i : NameBinding ℕ) (less : i.bound < length ps). omega (arith, less)) r.children all in
        let mine : KidsBelow (length ps + 1) parent =
        (omega arith, unbound_below (length ps + 1) spawning.child p.children (wider p own_below)) in
        let all : AllByRecursion (KidsBelow (length ps + 1)) front =
        set_all (KidsBelow (length ps + 1)) ps k parent mine
        (all-weaker (KidsBelow (length ps)) (KidsBelow (length ps + 1)) wider ps below) in
        subst (λ (n : ℕ). AllByRecursion (KidsBelow n) made) (sym number)
        (all_append (KidsBelow (length ps + 1)) front (child ∷ []) all (tt, tt))

    child_mirror : Mirrors b p.name birth (kept_by k s.db (spawn_script (Some script) spawning path k p c))
    child_mirror = record {
      board = child_board;
      uses = uses_kept (Spawned path ∷ []) k (record c { processes = made });
      births = births_kept (Spawned path ∷ []) k (record c { processes = made });
      below = child_below;
    }

  script_mirror : (o : Option (List Instr)) (spawning : SpawnRequest) (path : List ℕ)
      → Mirrors b p.name (spawns_script o spawning path x) (kept_by k s.db (spawn_script o spawning path k p c))
  script_mirror None spawning path =
      noted_mirror (went_to spawning.place p) (went_to spawning.place x.own) (Unspawned path true ∷ []) refl
      (record { whole = refl; bared = refl }) refl
  script_mirror (Some script) spawning path = child_mirror script spawning path

  file_mirror : (o : Option (List ℕ)) (spawning : SpawnRequest) (path : List ℕ)
      → Mirrors b p.name (spawns_file o (nat_lt (length ps) max_processes) spawning path x) (kept_by k s.db (spawn_file o spawning path k p c))
  file_mirror None spawning path =
      noted_mirror (went_to spawning.place p) (went_to spawning.place x.own) (Unspawned path false ∷ []) refl
      (record { whole = refl; bared = refl }) refl
  file_mirror (Some bytes) spawning path = script_mirror (script_within c bytes) spawning path

  spawn_mirror : (o : Option (List ℕ)) (spawning : SpawnRequest)
      → Mirrors b p.name (spawns o spawning b x) (kept_by k s.db (spawn_path o spawning k p c))
  spawn_mirror None spawning = own_mirror (with_exit_status 243 p) (with_exit_status 243 x.own) (record { whole = refl; bared = refl }) refl
  spawn_mirror (Some path) spawning = file_mirror (content_at c.files path) spawning path

  -- ---- wait

  -- the status of a child, by its creation number and by its name
  status_same : (n : ℕ) → n < length ps → status_in ps n ≡ status_of b (at_number (names ps) n)
  status_same n less =
      let r = there_below ps n less in
      let name : at_number (names ps) n ≡ r.0.name = name_at ps n r.0 r.1 in
      let there : solos ps r.0.name ≡ Some (solo_of (names ps) r.0) = solos_there ps distinct.distinct n r.0 r.1 in
      let left : status_in ps n ≡ r.0.status = ap (option_and_then (λ (q : Process). q.status)) r.1 in
      let right : status_of b (at_number (names ps) n) ≡ r.0.status = ap (status_of b) name ∙ ap boards.status_in there in
      left ∙ sym right

  until_mirror : (o : Option ℕ) (n : ℕ) (to : List ℕ) → is_some o ≡ true
      → Mirrors b p.name (waits_until o to x) (kept_by k s.db (wait_until o n to k p c))
  until_mirror None n to some = absurd cc
  until_mirror (Some status) n to some =
      noted_mirror (went_on (with_variable to (Int (pos status)) p)) (went_on (with_variable to (Int (pos status)) x.own)) (Waited n ∷ []) refl
      (record { whole = refl; bared = refl }) refl

  wait_mirror : (o : Option ℕ) (to : List ℕ) → ((n : ℕ) → o ≡ Some n → n < length ps)
      → free_for (option_map (at_number (names ps)) o) b ≡ true
      → Mirrors b p.name (waits (option_map (at_number (names ps)) o) to b x) (kept_by k s.db (wait_for o to k p c))
  wait_mirror None to less free = own_mirror (with_exit_status 240 p) (with_exit_status 240 x.own) (record { whole = refl; bared = refl }) refl
  wait_mirror (Some n) to less free =
      let same : status_in ps n ≡ status_of b (at_number (names ps) n) = status_same n (less n refl) in
      subst (λ (o : Option ℕ). Mirrors b p.name (waits_until o to x) (kept_by k s.db (wait_until (status_in ps n) n to k p c))) same
      (until_mirror (status_in ps n) n to (ap is_some same ∙ free))

  -- ---- sql, where nothing is asked

  -- what is asked says the name alone of the process
  ask_bare : (cursor : List ℕ) (v : Value) (params : List Value) → ask cursor v params (bare p) ≡ ask cursor v params p
  ask_bare cursor Null params = refl
  ask_bare cursor (Int n) params = refl
  ask_bare cursor (Text t) params = refl

  quiet_asks : (o : Option Ask) (es : List Entry) → o ≡ None → Mirrors b p.name (asks o es x) (kept_by k s.db (own k (with_exit_status 240 p) c))
  quiet_asks None es none = own_mirror (with_exit_status 240 p) (with_exit_status 240 x.own) (record { whole = refl; bared = refl }) refl
  quiet_asks (Some a) es none = absurd cc

  -- ---- every instruction

  abbrev Any : List ℕ → Type 0
  Any path = Unit {0}

  -- by an equation for other children
  worn_by : (f : Process → Process) → ((cs : List (NameBinding ℕ)) (q : Process) → f (dress cs q) ≡ dress cs (f q)) → Worn p (f p) (f (bare p))
  worn_by f dressed = record { whole = dressed p.children (bare p); bared = sym (dressed [] (bare p)) }

  executes_mirror : (i : Instr) → is_free (Some i) b x ≡ true → ask_of_instr (Some i) p ≡ None
      → Mirrors b p.name (deed_of i b x) (kept_by k s.db (execute i k p c))
  executes_mirror (instr.Let to value) free none =
      own_mirror _ _ (record { whole = refl; bared = refl }) refl
  executes_mirror (instr.Calc to op left right) free none =
      let v : Value = operand_value p left in
      let w : Value = operand_value p right in
      own_mirror _ _
      (record { whole = assign_dressed p.children to (calculation op v w) (bare p); bared = sym (assign_dressed [] to (calculation op v w) (bare p)) })
      (fine_at Any (instr.Calc to op left right) b x).named
  executes_mirror (instr.Glue to left right) free none =
      let v : Value = operand_value p left in
      let w : Value = operand_value p right in
      own_mirror _ _
      (record { whole = assign_dressed p.children to (concatenation v w) (bare p); bared = sym (assign_dressed [] to (concatenation v w) (bare p)) })
      (fine_at Any (instr.Glue to left right) b x).named
  executes_mirror (instr.ToInt to value) free none =
      let v : Value = operand_value p value in
      own_mirror _ _
      (record { whole = assign_dressed p.children to (to_number v) (bare p); bared = sym (assign_dressed [] to (to_number v) (bare p)) })
      (fine_at Any (instr.ToInt to value) b x).named
  executes_mirror (instr.Cut before after by) free none =
      let v : Value = operand_value p by in
      let w : Value = operand_value p (Variable after) in
      own_mirror _ _
      (record { whole = cut_dressed p.children before after v w (bare p); bared = sym (cut_dressed [] before after v w (bare p)) })
      (fine_at Any (instr.Cut before after by) b x).named
  executes_mirror (instr.Jump place) free none = own_mirror _ _ (record { whole = refl; bared = refl }) refl
  executes_mirror (instr.JumpIf op left right place) free none =
      let goes : Bool = meets op (order (operand_value p left) (operand_value p right)) in
      own_mirror _ _
      (record { whole = jump_dressed p.children goes place (bare p); bared = sym (jump_dressed [] goes place (bare p)) })
      (fine_at Any (instr.JumpIf op left right place) b x).named
  executes_mirror (instr.Print operands) free none =
      let text : List ℕ = printed_line (operand_values p operands) in
      own_mirror _ _
      (record { whole = line_dressed p.children text (bare p); bared = sym (line_dressed [] text (bare p)) })
      (fine_at Any (instr.Print operands) b x).named
  executes_mirror (instr.Exit code) free none = own_mirror _ _ (record { whole = refl; bared = refl }) refl
  executes_mirror (instr.OpenPath file mode path place) free none =
      files_mirror _ _ (opens_mirror file mode (path_at path p) place p c.files) (fine_at Any (instr.OpenPath file mode path place) b x).named
  executes_mirror (instr.ReadLine to file place) free none =
      files_mirror _ _ (reads_mirror (open_for allows_read file p) to file place p c.files) (fine_at Any (instr.ReadLine to file place) b x).named
  executes_mirror (instr.WriteLine file operands) free none =
      files_mirror _ _ (writes_mirror (open_for allows_write file p) (printed_line (operand_values p operands)) p c.files)
      (fine_at Any (instr.WriteLine file operands) b x).named
  executes_mirror (instr.CopyRest source target) free none =
      files_mirror _ _ (copies_mirror source (open_for allows_read source p) (open_for allows_write target p) p c.files)
      (fine_at Any (instr.CopyRest source target) b x).named
  executes_mirror (instr.Close file) free none =
      let o : Option OpenFile = lookup file p.files in
      own_mirror _ _
      (record { whole = close_dressed p.children o file (bare p); bared = sym (close_dressed [] o file (bare p)) })
      (fine_at Any (instr.Close file) b x).named
  executes_mirror (instr.Remove path place) free none =
      files_mirror _ _ (removes_mirror (path_at path p) place p c.files) (fine_at Any (instr.Remove path place) b x).named
  executes_mirror (instr.Exists to path) free none =
      files_mirror _ _ (tests_mirror to (path_at path p) p c.files) (fine_at Any (instr.Exists to path) b x).named
  executes_mirror (instr.Spawn child path arguments place) free none =
      spawn_mirror (path_at path p) (spawning_of child arguments place p)
  executes_mirror (instr.Wait to child) free none =
      let same : lookup child x.kids ≡ option_map (at_number (names ps)) (lookup child p.children) = lookup_kids (names ps) child p.children in
      subst (λ (o : Option (List ℕ)). Mirrors b p.name (waits o to b x) (kept_by k s.db (wait_for (lookup child p.children) to k p c))) (sym same)
      (wait_mirror (lookup child p.children) to (λ n found. found_below (length ps) child p.children n own_below found)
      (ap (λ (o : Option (List ℕ)). free_for o b) (sym same) ∙ free))
  executes_mirror (instr.Sql cursor text params) free none =
      quiet_asks (ask cursor (operand_value x.own text) (operand_values x.own params) x.own) (entries_left p.name s.db)
      (ask_bare cursor (operand_value p text) (operand_values p params) ∙ none)
  executes_mirror (instr.Fetch cursor to place) free none =
      let o = lookup cursor p.cursors in
      own_mirror _ _
      (record { whole = fetch_dressed p.children o cursor to place (bare p); bared = sym (fetch_dressed [] o cursor to place (bare p)) })
      (fine_at Any (instr.Fetch cursor to place) b x).named
  executes_mirror (instr.Count to cursor) free none =
      let o = lookup cursor p.cursors in
      own_mirror _ _
      (record { whole = assign_dressed p.children to (row_count o) (bare p); bared = sym (assign_dressed [] to (row_count o) (bare p)) })
      (fine_at Any (instr.Count to cursor) b x).named
  executes_mirror (instr.Status to cursor) free none =
      let o = lookup cursor p.cursors in
      own_mirror _ _
      (record { whole = assign_dressed p.children to (status_value o) (bare p); bared = sym (assign_dressed [] to (status_value o) (bare p)) })
      (fine_at Any (instr.Status to cursor) b x).named

  next_mirror : (i : Option Instr) → is_free i b x ≡ true → ask_of_instr i p ≡ None
      → Mirrors b p.name (deed_by i b x) (kept_by k s.db (execute_next i k p c))
  next_mirror None free none = own_mirror (with_exit_status 0 p) (with_exit_status 0 x.own) (record { whole = refl; bared = refl }) refl
  next_mirror (Some i) free none = executes_mirror i free none

  -- ---- a question

  -- the reply is the recorded one
  took_board : (a : Ask) (reply : Reply) → a.question.process ≡ p.name
      → board_of (record { core = took_of (Some p) k a reply c; db = logs_after a.question.process s.db })
      ≡ applied p.name (taking (process_with_reply a reply x.own) x) b
  took_board a reply who =
      let q : Process = process_with_reply a reply p in
      let worn : Worn p q (process_with_reply a reply x.own) = record { whole = refl; bared = refl } in
      let number : length (slice_set ps k q) ≡ length ps + 0 = let count : length (slice_set ps k q) ≡ length ps = set_length ps k q in omega (arith, count) in
      let solo : (name : List ℕ) → solos (slice_set ps k q) name ≡ boards.solo_after p.name (taking (process_with_reply a reply x.own) x) b name =
      λ name. solos_set ps distinct.distinct k p is q refl name
      ∙ ap (λ (z : Solo). if bytes_eq name p.name then Some z else solos ps name) (worn_solo q (process_with_reply a reply x.own) worn) in
      λ j. record {
        solo = λ name. solo name j;
        bytes = b.bytes;
        touched = b.touched;
        left = λ name. left_same name j;
        made = number j;
        stopped = sym (or-false (is_some c.diverged)) j;
      }
    where
      left_same : (name : List ℕ) → entries_left name (logs_after a.question.process s.db) ≡ boards.left_after p.name true b name
      left_same name =
          ap (λ (n : List ℕ). entries_left name (logs_after n s.db)) who
          ∙ elim (cases_Bool (bytes_eq name p.name)) [
            | inl hit ↦
                let here : name ≡ p.name = bytes_eq-true name p.name hit in
                rw hit
                (ap (λ (n : List ℕ). entries_left name (logs_after n s.db)) (sym here) ∙ left_after name s.db)
            | inr miss ↦
                rw miss
                (left_other p.name name s.db
                (λ same. let hit : bytes_eq name p.name ≡ true = ap (bytes_eq name) (sym same) ∙ bytes_eq-itself name in let never : true ≡ false = sym hit ∙ miss in cc))
          ]

  -- there is none: the run diverges
  stopped_mirror : (a : Ask) → Mirrors b p.name (stopping x) (told k a s Diverges)
  stopped_mirror a = record {
    board =
        let none : length ps ≡ length ps + 0 = omega arith in
        λ j. record {
          solo = λ name. sym (stays name) j;
          bytes = b.bytes;
          touched = b.touched;
          left = b.left;
          made = none j;
          stopped = sym (or-true (is_some c.diverged)) j;
        };
    uses = refl;
    births = refl;
    below = below;
  }
    where
      stays : (name : List ℕ) → boards.solo_after p.name (stopping x) b name ≡ solos ps name
      stays name = elim (cases_Bool (bytes_eq name p.name)) [
        | inl hit ↦
            let here : name ≡ p.name = bytes_eq-true name p.name hit in
            rw hit (sym (ap (solos ps) here ∙ solos_there ps distinct.distinct k p is))
        | inr miss ↦ rw miss refl
      ]

  given_mirror : (a : Ask) (reply : Reply) → a.question.process ≡ p.name
      → Mirrors b p.name (taking (process_with_reply a reply x.own) x) (told k a s (Gives reply (logs_after a.question.process s.db) no_lists))
  given_mirror a reply who = record {
    board =
        ap (λ (o : Option Process). board_of (record { core = took_of o k a reply c; db = logs_after a.question.process s.db })) is
        ∙ took_board a reply who;
    uses = end_unused (slice_get (took k a reply c).processes k);
    births = let none : births_of (ends_at k (took k a reply c)) ≡ 0 = end_unborn (slice_get (took k a reply c).processes k) in omega (arith, none);
    below =
        subst (λ (o : Option Process). AllBelow (took_of o k a reply c).processes) (sym is)
        (set_below (process_with_reply a reply p) (process_with_reply a reply x.own) (record { whole = refl; bared = refl }));
  }

  told_mirror : (a : Ask) → a.question.process ≡ p.name → (es : List Entry)
      → Mirrors b p.name (asks_next a es x) (told k a s (answer_from s.db a.question es))
  told_mirror a who [] = stopped_mirror a
  told_mirror a who (entry ∷ es) = elim (cases_Bool (is_recorded a.question entry)) [
    | inl hit ↦ rw hit (given_mirror a entry.reply who)
    | inr miss ↦ rw miss (stopped_mirror a)
  ]

  -- ---- the step

  asks_deed : (i : Option Instr) (a : Ask) → ask_of_instr i p ≡ Some a
      → (deed_by i b x ≡ asks_next a (entries_left p.name s.db) x) × (a.question.process ≡ p.name)
  asks_deed None a asked = absurd cc
  asks_deed (Some (instr.Sql cursor text params)) a asked = (
    ap (λ (o : Option Ask). asks o (entries_left p.name s.db) x)
        (ask_bare cursor (operand_value p text) (operand_values p params) ∙ asked),
    next_named (Some (instr.Sql cursor text params)) p a asked,
  )
  asks_deed (Some other) a asked = absurd cc

  kept_is : (i : Option Instr) → slice_get p.script p.place ≡ i → kept k s ≡ kept_by k s.db (execute_next i k p c)
  kept_is i next =
      ap (λ (o : Option Process). kept_by k s.db (local_step_of o k c)) is
      ∙ ap (λ (o : Option Instr). kept_by k s.db (execute_next o k p c)) next

  asking_mirror : (i : Option Instr) (o : Option Ask) → slice_get p.script p.place ≡ i → ask_of_instr i p ≡ o → is_free i b x ≡ true
      → Mirrors b p.name (deed_by i b x) (asking log_base k s o)
  asking_mirror i None next none free =
      subst (λ (m : StepResult LogDatabase). Mirrors b p.name (deed_by i b x) m) (sym (kept_is i next)) (next_mirror i free none)
  asking_mirror i (Some a) next asked free =
      let both = asks_deed i a asked in
      subst (λ (d : Deed). Mirrors b p.name d (told k a s (log_base s.db a.question))) (sym both.0)
      (subst (λ (name : List ℕ). Mirrors b p.name (asks_next a (entries_left name s.db) x) (told k a s (answer_from s.db a.question (entries_left a.question.process s.db)))) both.1
      (told_mirror a both.1 (entries_left a.question.process s.db)))

  pub step_mirror : is_free (next_of x) b x ≡ true → Mirrors b p.name (deed b x) (step log_base k s)
  step_mirror free =
      let asks : ask_of_instr (slice_get p.script p.place) p ≡ next_ask k c = ap ask_of_process (sym is) in
      asking_mirror (slice_get p.script p.place) (next_ask k c) refl asks free

  -- ---- who may make a step

  waits_free : (o : Option ℕ) → ((n : ℕ) → o ≡ Some n → n < length ps) → waits_for o ps ≡ false
      → free_for (option_map (at_number (names ps)) o) b ≡ true
  waits_free None less rests = refl
  waits_free (Some n) less rests =
      let r = there_below ps n (less n refl) in
      let rest : is_none r.0.status ≡ false = ap still_runs (sym r.1) ∙ rests in
      let found : status_in ps n ≡ r.0.status = ap (option_and_then (λ (q : Process). q.status)) r.1 in
      ap is_some (sym (status_same n (less n refl)) ∙ found) ∙ gone r.0.status rest
    where
      gone : (o : Option ℕ) → is_none o ≡ false → is_some o ≡ true
      gone None none = cc
      gone (Some status) none = refl

  free_from : (i : Option Instr) → is_waiting i p ps ≡ false → is_free i b x ≡ true
  free_from None rests = refl
  free_from (Some (instr.Wait to child)) rests =
      let same : lookup child x.kids ≡ option_map (at_number (names ps)) (lookup child p.children) = lookup_kids (names ps) child p.children in
      ap (λ (o : Option (List ℕ)). free_for o b) same
      ∙ waits_free (lookup child p.children) (λ n found. found_below (length ps) child p.children n own_below found) rests
  free_from (Some other) rests = refl

  pub step_may : is_runnable ps p ≡ true → is_some c.diverged ≡ false → May p.name b x
  step_may runs going =
      let parts = and_parts (is_none p.status) (not (is_waiting (slice_get p.script p.place) p ps)) runs in
      record {
        there = solos_there ps distinct.distinct k p is;
        going = is_none-true p.status parts.0;
        free = free_from (slice_get p.script p.place) (not-true (is_waiting (slice_get p.script p.place) p ps) parts.1);
        runs = going;
      }
