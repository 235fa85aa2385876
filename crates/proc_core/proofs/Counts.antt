-- Only a step that asks adds to the replies of a process, and only a `spawn` adds to its children.
use Rattle.std.proofs.Common.{◌≡◌, ℕ, zero, suc, ◌+◌, ◌<◌, ◌^◌, List, [], ◌∷◌, ◌++◌, length, refl, sym, ap, ◌∙◌, subst, Bool, true, false, arith, inl, inr, length-append}
use Rattle.std.specs.Prelude.{Option, Some, None, option_and_then, slice_get, slice_set, nat_lt, ◌==◌}
use Rattle.std.specs.List.{AllByRecursion}
use Rattle.sql_model.specs.declared.reply.Reply.{Reply}
use Rattle.std.proofs.lemmas.Bool.{cases_Bool}
use Rattle.std.proofs.lemmas.List.{length-set}
use Rattle.ready_set.specs.Ready.{ReadyView}
use Rattle.ldv_value.specs.FileState.{FileState, FileRefusal, open_refusal, is_there, read_line, has_room, rest_at}
use Rattle.ldv_value.specs.Limits.{printed_limit}
use Rattle.ldv_value.specs.Order.{order, meets}
use Rattle.ldv_value.specs.declared.file.OpenMode.{OpenMode}
use Rattle.ldv_value.specs.declared.line.LineRead.{LineRead}
use Rattle.ldv_value.specs.declared.line.LineRead.TheVariants as lines
use Rattle.proc_core.specs.Types.{Value}
use Rattle.run_model.specs.Core.{OpenFile}
use Rattle.run_model.specs.StepBase.{Computation, Yields, Misused}
use Rattle.run_model.specs.StepFiles.{path_in, allows_read, allows_write}
use Rattle.run_model.specs.StepReplies.{row_count, status_value}
use Rattle.run_model.specs.StepVariables.{calculation, concatenation, to_number, printed_line}
use Rattle.script_code.specs.declared.code.Code.{Code}
use Rattle.script_code.specs.declared.code.FileInstr.{FileInstr}
use Rattle.script_code.specs.declared.code.FileInstr.TheVariants as on_files
use Rattle.script_code.specs.declared.code.OwnInstr.{OwnInstr}
use Rattle.script_code.specs.declared.code.OwnInstr.TheVariants as own
use Rattle.script_code.specs.declared.code.SlotInstr.{SlotInstr}
use Rattle.script_code.specs.declared.code.SlotInstr.TheVariants.{Own, OnFiles, Spawn, Wait, Sql}
use Rattle.script_code.specs.declared.code.SlotOperand.TheVariants.{Slot}
use Rattle.proc_core.specs.declared.instructions.cut.CutParts.{CutParts}
use Rattle.proc_core.specs.declared.machine.Machine.{Machine}
use Rattle.proc_core.specs.declared.process.SlotCursor.{SlotCursor}
use Rattle.proc_core.specs.declared.process.SlotProcess.{SlotProcess}
use Rattle.proc_core.specs.inner.SlotAsk.{slot_replied}
use Rattle.proc_core.specs.inner.Counts.{counted_of, AreBelow, HaveFewer, CountsBelow, MaySpawn}
use Rattle.proc_core.specs.inner.SlotFiles.{slot_open_unless, slot_open_path, slot_open_for, slot_take_line, slot_read_next, slot_write_where, slot_write_text, slot_copy_where, slot_copy_between, slot_remove_found, slot_remove, slot_exists, slot_on_files}
use Rattle.proc_core.specs.inner.SlotOwn.{slot_own}
use Rattle.proc_core.specs.inner.SlotReplies.{slot_close_file, slot_with_values, slot_one_more, slot_take_row, slot_fetch_row, slot_next_row, slot_fetch_from}
use Rattle.proc_core.specs.inner.SlotSpawn.{HasChild, IsNoChild, slot_parent}
use Rattle.proc_core.specs.inner.SlotReady.{marked_by, marked, marked_parent, marked_above, refreshed}
use Rattle.proc_core.specs.inner.SlotStep.{slot_wait_until, slot_wait_with, slot_child_status, slot_is_runnable, slot_status_in, slot_effect}
use Rattle.proc_core.specs.inner.SlotVariables.{slot_cut_parts, split_value, slot_jump_where, slot_print_line}
use Rattle.proc_core.specs.inner.Slots.{open_at, cursor_of, child_at, slot_value, slot_values, slot_assign}
use Rattle.proc_core.specs.inner.Slots.{slot_with_variable}
use Rattle.proc_core.specs.Stands.{cursor_at}
use Rattle.proc_core.proofs.Machines.{get_some}

-- ---- an instruction that changes its own process only

-- the same replies, and as many children were made
abbrev Same : SlotProcess → SlotProcess → Type 0
Same r q = counted_of q ≡ counted_of r

module _ (r : SlotProcess) where
  assigned : (to : ℕ) (v : Computation) → Same r (slot_assign to v r)
  assigned to (Yields v) = refl
  assigned to (Misused status) = refl

  cut_so : (before after : ℕ) (parts : Option CutParts) → Same r (slot_cut_parts before after parts r)
  cut_so before after None = refl
  cut_so before after (Some parts) = refl

  jumped : (goes : Bool) (place : ℕ) → Same r (slot_jump_where goes place r)
  jumped true place = refl
  jumped false place = refl

  printed : (text : List ℕ) → Same r (slot_print_line text r)
  printed text = elim (cases_Bool (nat_lt printed_limit (length r.printed + length text))) [
    | inl over ↦ rw over refl
    | inr fits ↦ rw fits refl
  ]

  closed : (file : Option OpenFile) (slot : ℕ) → Same r (slot_close_file file slot r)
  closed None slot = refl
  closed (Some file) slot = refl

set_so : (to : List ℕ) (values : List Value) (r : SlotProcess) → Same r (slot_with_values to values r)
set_so [] values r = refl
set_so (slot ∷ slots) [] r = refl
set_so (slot ∷ slots) (v ∷ values) r = set_so slots values (slot_with_variable slot v r)

module _ (r : SlotProcess) where
  row_so : (row : List Value) (cursor : SlotCursor) (slot : ℕ) (to : List ℕ) → Same r (slot_take_row row cursor slot to r)
  row_so row cursor slot to = elim (cases_Bool (length row == length to)) [
    | inl fits ↦ rw fits (set_so to row (slot_one_more slot cursor r))
    | inr other ↦ rw other refl
  ]

  fetched_row : (row : Option (List Value)) (cursor : SlotCursor) (slot : ℕ) (to : List ℕ) (place : ℕ) → Same r (slot_fetch_row row cursor slot to place r)
  fetched_row None cursor slot to place = refl
  fetched_row (Some row) cursor slot to place = row_so row cursor slot to

  fetched : (cursor : Option SlotCursor) (slot : ℕ) (to : List ℕ) (place : ℕ) → Same r (slot_fetch_from cursor slot to place r)
  fetched None slot to place = refl
  fetched (Some cursor) slot to place = fetched_row (slot_next_row cursor r) cursor slot to place

  own_so : (o : OwnInstr) → Same r (slot_own o r)
  own_so (own.Let to value) = refl
  own_so (own.Calc to op left right) = assigned r to (calculation op (slot_value r left) (slot_value r right))
  own_so (own.Glue to left right) = assigned r to (concatenation (slot_value r left) (slot_value r right))
  own_so (own.ToInt to value) = assigned r to (to_number (slot_value r value))
  own_so (own.Cut before after by) = cut_so r before after (split_value (slot_value r by) (slot_value r (Slot after)))
  own_so (own.Jump place) = refl
  own_so (own.JumpIf op left right place) = jumped r (meets op (order (slot_value r left) (slot_value r right))) place
  own_so (own.Print operands) = printed r (printed_line (slot_values r operands))
  own_so (own.Exit status) = refl
  own_so (own.Close slot) = closed r (open_at slot r) slot
  own_so (own.Fetch slot to place) = fetched (cursor_of slot r) slot to place
  own_so (own.Count to slot) = assigned r to (row_count (option_and_then (cursor_at r.replies) (cursor_of slot r)))
  own_so (own.Status to slot) = assigned r to (status_value (option_and_then (cursor_at r.replies) (cursor_of slot r)))

  -- ---- one on files

  opened_unless : (refusal : Option FileRefusal) (found : Bool) (slot : ℕ) (mode : OpenMode) (path : List ℕ) (place : ℕ) (st : FileState)
      → Same r (slot_open_unless refusal found slot mode path place r st).process
  opened_unless None found slot mode path place st = refl
  opened_unless (Some refusal) found slot mode path place st = refl

  opened_so : (path : Option (List ℕ)) (slot : ℕ) (mode : OpenMode) (place : ℕ) (st : FileState) → Same r (slot_open_path path slot mode place r st).process
  opened_so None slot mode place st = refl
  opened_so (Some path) slot mode place st =
      opened_unless (open_refusal mode (is_there st path)) (is_there st path) slot mode path place st

  took_line : (read : LineRead) (to slot : ℕ) (file : OpenFile) (place : ℕ) → Same r (slot_take_line read to slot file place r)
  took_line lines.End to slot file place = refl
  took_line (lines.Line line next) to slot file place = refl
  took_line lines.TooLong to slot file place = refl
  took_line lines.NotText to slot file place = refl

  read_so : (file : Option OpenFile) (to slot place : ℕ) (st : FileState) → Same r (slot_read_next file to slot place r st).process
  read_so None to slot place st = refl
  read_so (Some file) to slot place st = took_line (read_line st file.path file.place) to slot file place

  wrote_where : (fits : Bool) (file : OpenFile) (text : List ℕ) (st : FileState) → Same r (slot_write_where fits file text r st).process
  wrote_where false file text st = refl
  wrote_where true file text st = refl

  wrote_so : (file : Option OpenFile) (text : List ℕ) (st : FileState) → Same r (slot_write_text file text r st).process
  wrote_so None text st = refl
  wrote_so (Some file) text st = wrote_where (has_room st file.path (length text)) file text st

  copied_where : (fits : Bool) (slot : ℕ) (source target : OpenFile) (st : FileState) → Same r (slot_copy_where fits slot source target r st).process
  copied_where false slot source target st = refl
  copied_where true slot source target st = refl

  copied_so : (slot : ℕ) (source target : Option OpenFile) (st : FileState) → Same r (slot_copy_between slot source target r st).process
  copied_so slot None target st = refl
  copied_so slot (Some source) None st = refl
  copied_so slot (Some source) (Some target) st =
      copied_where (has_room st target.path (length (rest_at st source.path source.place))) slot source target st

  removed_found : (found : Bool) (path : List ℕ) (place : ℕ) (st : FileState) → Same r (slot_remove_found found path place r st).process
  removed_found false path place st = refl
  removed_found true path place st = refl

  removed_so : (path : Option (List ℕ)) (place : ℕ) (st : FileState) → Same r (slot_remove path place r st).process
  removed_so None place st = refl
  removed_so (Some path) place st = removed_found (is_there st path) path place st

  tested_so : (path : Option (List ℕ)) (to : ℕ) (st : FileState) → Same r (slot_exists path to r st).process
  tested_so None to st = refl
  tested_so (Some path) to st = refl

  files_so : (o : FileInstr) (st : FileState) → Same r (slot_on_files o r st).process
  files_so (on_files.OpenPath slot mode path place) st = opened_so (path_in (slot_value r path)) slot mode place st
  files_so (on_files.ReadLine to slot place) st = read_so (slot_open_for allows_read slot r) to slot place st
  files_so (on_files.WriteLine slot operands) st = wrote_so (slot_open_for allows_write slot r) (printed_line (slot_values r operands)) st
  files_so (on_files.CopyRest source target) st = copied_so source (slot_open_for allows_read source r) (slot_open_for allows_write target r) st
  files_so (on_files.Remove path place) st = removed_so (path_in (slot_value r path)) place st
  files_so (on_files.Exists to path) st = tested_so (path_in (slot_value r path)) to st

  -- ---- a `wait`

  waited_until : (status : Option ℕ) (child to : ℕ) (st : FileState) → Same r (slot_wait_until status child to r st).process
  waited_until None child to st = refl
  waited_until (Some status) child to st = refl

  waited : (child status : Option ℕ) (to : ℕ) (st : FileState) → Same r (slot_wait_with child status to r st).process
  waited None status to st = refl
  waited (Some child) status to st = waited_until status child to st

  -- ---- any that asks nothing

  pub effect_counts : (o : Option SlotInstr) (rs : List SlotProcess) (st : FileState) → Same r (slot_effect o rs r st).process
  effect_counts None rs st = refl
  effect_counts (Some (Own o)) rs st = own_so o
  effect_counts (Some (OnFiles o)) rs st = files_so o st
  effect_counts (Some (Spawn child path arguments place)) rs st = refl
  effect_counts (Some (Wait to child)) rs st = waited (child_at child r) (slot_child_status (child_at child r) rs) to st
  effect_counts (Some (Sql cursor text params)) rs st = refl

-- ---- of all processes

module _ (n : ℕ) where
  abbrev HasFewer : SlotProcess → Type 0
  HasFewer r = AreBelow n (counted_of r)

  abbrev All : List SlotProcess → Type 0
  All rs = AllByRecursion HasFewer rs

  all_by : (rs : List SlotProcess) → HaveFewer n rs → All rs
  all_by [] fewer = tt
  all_by (r ∷ rs) fewer = (fewer 0 r refl, all_by rs (λ k q at. fewer (suc k) q at))

  at_by : (rs : List SlotProcess) → All rs → HaveFewer n rs
  at_by [] all k r at = absurd cc
  at_by (q ∷ rs) all zero r at = let same : q ≡ r = cc in subst HasFewer same all.0
  at_by (q ∷ rs) all (suc k) r at = at_by rs all.1 k r at

  all_set : (rs : List SlotProcess) (k : ℕ) (q : SlotProcess) → All rs → HasFewer q → All (slice_set rs k q)
  all_set [] k q all fewer = tt
  all_set (r ∷ rs) zero q all fewer = (fewer, all.1)
  all_set (r ∷ rs) (suc k) q all fewer = (all.0, all_set rs k q all.1 fewer)

  all_end : (rs : List SlotProcess) (q : SlotProcess) → All rs → HasFewer q → All (rs ++ q ∷ [])
  all_end [] q all fewer = (fewer, tt)
  all_end (r ∷ rs) q all fewer = (all.0, all_end rs q all.1 fewer)

  fewer_set : (rs : List SlotProcess) (k : ℕ) (q : SlotProcess) → HaveFewer n rs → HasFewer q → HaveFewer n (slice_set rs k q)
  fewer_set rs k q each fewer = at_by (slice_set rs k q) (all_set rs k q (all_by rs each) fewer)

  fewer_end : (rs : List SlotProcess) (q : SlotProcess) → HaveFewer n rs → HasFewer q → HaveFewer n (rs ++ q ∷ [])
  fewer_end rs q each fewer = at_by (rs ++ q ∷ []) (all_end rs q (all_by rs each) fewer)

fewer_more : (n : ℕ) (rs : List SlotProcess) → HaveFewer n rs → HaveFewer (n + 1) rs
fewer_more n rs each k r at =
    let below : (length r.replies < n) × (r.spawned < n) = each k r at in
    let replies : length r.replies < n + 1 = omega (arith, below.0) in
    let spawned : r.spawned < n + 1 = omega (arith, below.1) in
    (replies, spawned)

-- ---- of a machine

module _ (m after : Machine) where
  -- a process stands in place of another, of which as much is counted
  pub fewer_kept : (number : ℕ) (f : SlotProcess → SlotProcess) → ((r : SlotProcess) → Same r (f r)) → number < length m.processes.items
      → ((r : SlotProcess) → slice_get m.processes.items number ≡ Some r → after.processes.items ≡ slice_set m.processes.items number (f r))
      → after.asked ≡ m.asked → after.ready ≡ m.ready → (n : ℕ) → CountsBelow n m → CountsBelow n after
  fewer_kept number f same within items asked ready n fewer =
      let there = get_some m.processes.items number within in
      let r : SlotProcess = there.0 in
      let own : AreBelow n (counted_of (f r)) = subst (AreBelow n) (sym (same r)) (fewer.each number r there.1) in
      record {
        all = subst (λ (k : ℕ). k < n) (sym asked) fewer.all;
        each = subst (HaveFewer n) (sym (items r there.1)) (fewer_set n m.processes.items number (f r) fewer.each own);
        flags = omega (
          arith,
          fewer.flags,
          ap (λ (set : ReadyView). length set.flags) ready,
          ap length (items r there.1) ∙ length-set m.processes.items number (f r),
        );
      }

  -- a child was made
  pub fewer_child : (number slot index : ℕ) (code : Code) (r : SlotProcess) (arguments : List Value) → HasChild m number slot index code r arguments after
      → slice_get m.processes.items number ≡ Some r → (n : ℕ) → CountsBelow n m → CountsBelow (n + 1) after
  fewer_child number slot index code r arguments child at n fewer =
      let parent : SlotProcess = slot_parent (length m.processes.items) slot r in
      let front : List SlotProcess = slice_set m.processes.items number parent in
      let none : length child.child.replies ≡ 0 = ap length (child.held []).replies in
      let first : child.child.spawned ≡ 0 = (child.held []).spawned in
      let own : (length r.replies < n) × (r.spawned < n) = fewer.each number r at in
      let replies : length r.replies < n + 1 = omega (arith, own.0) in
      let spawned : r.spawned + 1 < n + 1 = omega (arith, own.1) in
      let new_replies : length child.child.replies < n + 1 = omega (arith, none) in
      let new_spawned : child.child.spawned < n + 1 = omega (arith, first) in
      let more_flags : length after.ready.flags ≡ length m.ready.flags + 1 = ap length child.ready ∙ length-append m.ready.flags (true ∷ []) in
      let more : length after.processes.items ≡ length m.processes.items + 1 =
      ap length child.items ∙ length-append front (child.child ∷ []) ∙ ap (λ (k : ℕ). k + 1) (length-set m.processes.items number parent) in
      record {
        all = omega (arith, child.others.asked, fewer.all);
        each = subst (HaveFewer (n + 1)) (sym child.items)
            (fewer_end (n + 1) front child.child
            (fewer_set (n + 1) m.processes.items number parent (fewer_more n m.processes.items fewer.each) (replies, spawned))
            (new_replies, new_spawned));
        flags = omega (arith, fewer.flags, more_flags, more);
      }

  -- another where nothing is counted more
  pub fewer_same : after.processes.items ≡ m.processes.items → after.asked ≡ m.asked → length after.ready.flags ≡ length m.ready.flags
      → (n : ℕ) → CountsBelow n m → CountsBelow n after
  fewer_same items asked flags n fewer = record {
    all = subst (λ (k : ℕ). k < n) (sym asked) fewer.all;
    each = subst (HaveFewer n) (sym items) fewer.each;
    flags = omega (arith, fewer.flags, flags, ap length items);
  }

pub fewer_next : (m : Machine) (n : ℕ) → CountsBelow n m → CountsBelow (n + 1) m
fewer_next m n fewer = record { all = omega (arith, fewer.all); each = fewer_more n m.processes.items fewer.each; flags = fewer.flags }

module _ (m after : Machine) where
  -- a process has its reply
  pub fewer_taken : (number cursor : ℕ) (x : Reply) → number < length m.processes.items
      → ((r : SlotProcess) → slice_get m.processes.items number ≡ Some r → after.processes.items ≡ slice_set m.processes.items number (slot_replied cursor x r))
      → after.asked ≡ m.asked + 1 → after.ready ≡ m.ready → (n : ℕ) → CountsBelow n m → CountsBelow (n + 1) after
  fewer_taken number cursor x within items asked ready n fewer =
      let there = get_some m.processes.items number within in
      let r : SlotProcess = there.0 in
      let q : SlotProcess = slot_replied cursor x r in
      let long : length q.replies ≡ length r.replies + 1 = length-append r.replies (x ∷ []) in
      let below : (length r.replies < n) × (r.spawned < n) = fewer.each number r there.1 in
      let replies : length q.replies < n + 1 = omega (arith, long, below.0) in
      let spawned : r.spawned < n + 1 = omega (arith, below.1) in
      record {
        all = omega (arith, asked, fewer.all);
        each = subst (HaveFewer (n + 1)) (sym (items r there.1))
            (fewer_set (n + 1) m.processes.items number q (fewer_more n m.processes.items fewer.each) (replies, spawned));
        flags = omega (
          arith,
          fewer.flags,
          ap (λ (set : ReadyView). length set.flags) ready,
          ap length (items r there.1) ∙ length-set m.processes.items number q,
        );
      }

  -- of one of the processes
  pub fewer_of : (number : ℕ) (r : SlotProcess) (n : ℕ) → CountsBelow n m → slice_get m.processes.items number ≡ Some r → length r.replies < n
  fewer_of number r n fewer at = (fewer.each number r at).0

module _ (m after : Machine) (number : ℕ) where
  -- no process was made
  pub fewer_idle : (f : SlotProcess → SlotProcess) → ((r : SlotProcess) → Same r (f r)) → number < length m.processes.items
      → ((r : SlotProcess) → slice_get m.processes.items number ≡ Some r → after.processes.items ≡ slice_set m.processes.items number (f r))
      → IsNoChild m after → (n : ℕ) → CountsBelow n m → CountsBelow (n + 1) after
  fewer_idle f same within items idle n fewer =
      fewer_next after n (fewer_kept m after number f same within items idle.others.asked idle.ready n fewer)

  -- a child was made, which runs a script that is there
  pub fewer_known : (slot index : ℕ) (code : Code) (arguments : List Value) → number < length m.processes.items → slice_get m.codes index ≡ Some code
      → ((r : SlotProcess) (k : Code) → slice_get m.processes.items number ≡ Some r → slice_get m.codes index ≡ Some k → HasChild m number slot index k r arguments after)
      → (n : ℕ) → CountsBelow n m → CountsBelow (n + 1) after
  fewer_known slot index code arguments within at makes n fewer =
      let there = get_some m.processes.items number within in
      fewer_child m after number slot index code there.0 arguments (makes there.0 code there.1 at) there.1 n fewer

  -- the same, where the script is new
  pub fewer_new : (slot index : ℕ) (code : Code) (arguments : List Value) → number < length m.processes.items
      → ((r : SlotProcess) → slice_get m.processes.items number ≡ Some r
      → HasChild (record m { codes = m.codes ++ code ∷ [] }) number slot index code r arguments after)
      → (n : ℕ) → CountsBelow n m → CountsBelow (n + 1) after
  fewer_new slot index code arguments within makes n fewer =
      let there = get_some m.processes.items number within in
      let more : Machine = record m { codes = m.codes ++ code ∷ [] } in
      fewer_child more after number slot index code there.0 arguments (makes there.0 there.1) there.1 n
      (record { all = fewer.all; each = fewer.each; flags = fewer.flags })

-- of a machine with one process
pub fewer_first : (m : Machine) (r : SlotProcess) → m.asked ≡ 0 → m.processes.items ≡ r ∷ [] → length r.replies ≡ 0 → r.spawned ≡ 0
    → m.ready.flags ≡ true ∷ [] → CountsBelow 1 m
fewer_first m r asked items none first ready =
    let replies : length r.replies < 1 = omega (arith, none) in
    let spawned : r.spawned < 1 = omega (arith, first) in
    let one : length m.ready.flags ≡ 1 = ap length ready in
    let long : length m.processes.items ≡ 1 = ap length items in
    record {
      all = omega (arith, asked);
      each = subst (HaveFewer 1) (sym items) (at_by 1 (r ∷ []) ((replies, spawned), tt));
      flags = omega (arith, one, long);
    }

-- ---- who makes a child

may_spawn_by : (n : ℕ) (o : Option SlotProcess) → ((r : SlotProcess) → o ≡ Some r → r.spawned < n) → n < 2 ^ 32 → MaySpawn o
may_spawn_by n None below small = tt
may_spawn_by n (Some r) below small = omega (arith, below r refl, small)

pub may_spawn : (m : Machine) (number n : ℕ) → CountsBelow n m → n < 2 ^ 32 → MaySpawn (slice_get m.processes.items number)
may_spawn m number n fewer small = may_spawn_by n (slice_get m.processes.items number) (λ r at. (fewer.each number r at).1) small

-- ---- the set of those that may run, brought up to date

module _ (codes : List Code) (rs : List SlotProcess) where
  marked_by_long : (number : ℕ) (o : Option SlotProcess) (flags : List Bool) → length (marked_by codes rs number o flags) ≡ length flags
  marked_by_long number None flags = refl
  marked_by_long number (Some r) flags = length-set flags number (slot_is_runnable codes rs r)

  parent_long : (parent : Option ℕ) (flags : List Bool) → length (marked_parent codes rs parent flags) ≡ length flags
  parent_long None flags = refl
  parent_long (Some parent) flags = marked_by_long parent (slice_get rs parent) flags

  above_long : (status parent : Option ℕ) (flags : List Bool) → length (marked_above codes rs status parent flags) ≡ length flags
  above_long None parent flags = refl
  above_long (Some status) parent flags = parent_long parent flags

  refreshed_long : (parents : List ℕ) (number : ℕ) (flags : List Bool) → length (refreshed codes rs parents number flags) ≡ length flags
  refreshed_long parents number flags =
      above_long (slot_status_in rs number) (slice_get parents number) (marked codes rs number flags)
      ∙ marked_by_long number (slice_get rs number) flags

pub fewer_refreshed : (after last : Machine) (number n : ℕ)
    → last.ready.flags ≡ refreshed after.codes after.processes.items after.parents number after.ready.flags
    → last ≡ record after { ready = last.ready } → CountsBelow n after → CountsBelow n last
fewer_refreshed after last number n flags others fewer =
    fewer_same after last (ap (λ (x : Machine). x.processes.items) others) (ap (λ (x : Machine). x.asked) others)
    (ap length flags ∙ refreshed_long after.codes after.processes.items after.parents number after.ready.flags) n fewer
