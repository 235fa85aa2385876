-- Facts about its process that every step keeps: its name; the count of its children, except for a child that
-- the step makes; its open files are at paths that it named.
use Rattle.std.proofs.Common.{◌≡◌, ℕ, suc, ◌+◌, List, [], ◌∷◌, length, refl, ap, Bool, true, false, arith, inl, inr}
use Rattle.std.specs.Prelude.{Option, Some, None, is_some}
use Rattle.std.proofs.lemmas.Bool.{cases_Bool}
use Rattle.ldv_value.specs.FileState.{FileRefusal, open_refusal, line_read}
use Rattle.ldv_value.specs.Order.{order, meets}
use Rattle.ldv_value.specs.declared.line.LineRead.{LineRead}
use Rattle.ldv_value.specs.declared.line.LineRead.TheVariants as lines
use Rattle.ldv_value.specs.declared.file.OpenMode.TheVariants as modes
use Rattle.script_parse.specs.declared.script.Instr.TheVariants as instr
use Rattle.free_order.specs.Types.{OpenMode, Value, Variable, Instr, Entry}
use Rattle.run_model.specs.Core.{NameBinding, lookup, OpenFile, Process}
use Rattle.run_model.specs.LogDatabase.{is_recorded}
use Rattle.run_model.specs.StepBase.{operand_value, operand_values, with_exit_status}
use Rattle.run_model.specs.StepFiles.{path_at, allows_read, allows_write, open_for, take_line}
use Rattle.run_model.specs.StepProcesses.{SpawnRequest, spawning_of}
use Rattle.run_model.specs.StepReplies.{Ask, ask, row_count, status_value}
use Rattle.run_model.specs.StepVariables.{calculation, concatenation, to_number, printed_line, exit_status}
use Rattle.run_model.proofs.StepKeeps.{AllFiles, unbound_files, Keeps, keeps_place, keeps_variable, keeps_end, keeps_assign, keeps_glue, keeps_cut, keeps_jump, keeps_line, keeps_fetch, keeps_close, calculated_byte, to_number_byte, counted_byte, status_value_byte, exit_byte}
use Rattle.run_laws.proofs.StepTrails.{Trail, trail, trail_assign, trail_cut, trail_jump, trail_line, trail_fetch, trail_close}
use Rattle.free_order.proofs.Boards.{Solo, Board, Use, Change, Still, Sets, Deed, Move, Bytes, Owner, Fits, Fit, opens_unless, opens, rest_of, reads, writes_where, room_for, writes, copies_where, copies, removes_where, removes, tests_where, tests, noting, plain, moved, child_name, spawns_script, script_in, spawns_file, has_room, spawns, status_of, waits_until, waits, asks_next, asks, deed_of, deed_by, next_of, deed}
use Rattle.free_order.proofs.LocalDeeds.{Named}

abbrev pub Bears : Solo → Option Solo → Solo → Type 0
Bears x None y = y.own.spawned ≡ x.own.spawned
Bears x (Some child) y = (child.own.name ≡ child_name x) × (y.own.spawned ≡ suc x.own.spawned) × (child.own.files ≡ [])

pub record Fine (P : List ℕ → Type 0) (x : Solo) (d : Deed) : Type 0 where
  pub named : d.after.own.name ≡ x.own.name
  pub opened : AllFiles P x.own.files → Named P d.uses → AllFiles P d.after.own.files
  pub born : Bears x d.born d.after

module _ (P : List ℕ → Type 0) where
  -- the files of a process after a move
  abbrev Opens : Process → Move → Type 0
  Opens p m = AllFiles P p.files → Named P m.uses → AllFiles P m.process.files

  record Tame (p : Process) (m : Move) : Type 0 where
    trailed : trail m.process ≡ trail p
    opened : Opens p m

  noting_fine : (q : Process) (x : Solo) (uses : List Use) → trail q ≡ trail x.own → (AllFiles P x.own.files → AllFiles P q.files)
      → Fine P x (noting q x uses)
  noting_fine q x uses same opened = record {
    named = ap (λ (t : Trail). t.name) same;
    opened = λ all named. opened all;
    born = ap (λ (t : Trail). t.spawned) same;
  }

  plain_fine : (q : Process) (x : Solo) → trail q ≡ trail x.own → Keeps P x.own q → Fine P x (plain q x)
  plain_fine q x same keeps = noting_fine q x [] same keeps.files

  moved_fine : (m : Move) (x : Solo) → Tame x.own m → Fine P x (moved m x)
  moved_fine m x tame = record {
    named = ap (λ (t : Trail). t.name) tame.trailed;
    opened = tame.opened;
    born = ap (λ (t : Trail). t.spawned) tame.trailed;
  }

  -- ---- files

  unless_tame : (r : Option FileRefusal) (o : Option (List ℕ)) (name : List ℕ) (mode : OpenMode) (path : List ℕ) (place : ℕ)
      (p : Process) → Tame p (opens_unless r o name mode path place p)
  unless_tame None o name mode path place p =
      record { trailed = refl; opened = λ all named. (named.0, unbound_files P name p.files all) }
  unless_tame (Some refusal) o name mode path place p = record { trailed = refl; opened = λ all named. all }

  opens_tame : (name : List ℕ) (mode : OpenMode) (o : Option (List ℕ)) (place : ℕ) (p : Process) (b : Bytes)
      → Tame p (opens name mode o place p b)
  opens_tame name mode None place p b = record { trailed = refl; opened = λ all named. all }
  opens_tame name mode (Some path) place p b =
      unless_tame (open_refusal mode (is_some (b path))) (b path) name mode path place p

  abbrev Takes : OpenFile → Process → Process → Type 0
  Takes file p q = (trail q ≡ trail p) × (AllFiles P p.files → P file.path → AllFiles P q.files)

  takes_line : (r : LineRead) (to name : List ℕ) (file : OpenFile) (place : ℕ) (p : Process)
      → Takes file p (take_line r to name file place p)
  takes_line lines.End to name file place p = (refl, λ all here. all)
  takes_line (lines.Line line next) to name file place p = (refl, λ all here. (here, unbound_files P name p.files all))
  takes_line lines.TooLong to name file place p = (refl, λ all here. all)
  takes_line lines.NotText to name file place p = (refl, λ all here. all)

  reads_tame : (o : Option OpenFile) (to name : List ℕ) (place : ℕ) (p : Process) (b : Bytes) → Tame p (reads o to name place p b)
  reads_tame None to name place p b = record { trailed = refl; opened = λ all named. all }
  reads_tame (Some file) to name place p b =
      let takes = takes_line (line_read file.place (rest_of (b file.path) file.place)) to name file place p in
      record { trailed = takes.0; opened = λ all named. takes.1 all named.0 }

  writes_tame : (fits : Bool) (o : Option (List ℕ)) (file : OpenFile) (text : List ℕ) (p : Process)
      → Tame p (writes_where fits o file text p)
  writes_tame false o file text p = record { trailed = refl; opened = λ all named. all }
  writes_tame true o file text p = record { trailed = refl; opened = λ all named. all }

  write_tame : (o : Option OpenFile) (text : List ℕ) (p : Process) (b : Bytes) → Tame p (writes o text p b)
  write_tame None text p b = record { trailed = refl; opened = λ all named. all }
  write_tame (Some file) text p b = writes_tame (room_for (b file.path) (length text)) (b file.path) file text p

  copies_tame : (fits : Bool) (rest : List ℕ) (o : Option (List ℕ)) (name : List ℕ) (source target : OpenFile) (p : Process)
      → Tame p (copies_where fits rest o name source target p)
  copies_tame false rest o name source target p = record { trailed = refl; opened = λ all named. all }
  copies_tame true rest o name source target p =
      record { trailed = refl; opened = λ all named. (named.0, unbound_files P name p.files all) }

  copy_tame : (name : List ℕ) (o r : Option OpenFile) (p : Process) (b : Bytes) → Tame p (copies name o r p b)
  copy_tame name None r p b = record { trailed = refl; opened = λ all named. all }
  copy_tame name (Some source) None p b = record { trailed = refl; opened = λ all named. all }
  copy_tame name (Some source) (Some target) p b =
      copies_tame (room_for (b target.path) (length (rest_of (b source.path) source.place)))
      (rest_of (b source.path) source.place) (b target.path) name source target p

  removes_tame : (found : Bool) (path : List ℕ) (place : ℕ) (p : Process) → Tame p (removes_where found path place p)
  removes_tame false path place p = record { trailed = refl; opened = λ all named. all }
  removes_tame true path place p = record { trailed = refl; opened = λ all named. all }

  remove_tame : (o : Option (List ℕ)) (place : ℕ) (p : Process) (b : Bytes) → Tame p (removes o place p b)
  remove_tame None place p b = record { trailed = refl; opened = λ all named. all }
  remove_tame (Some path) place p b = removes_tame (is_some (b path)) path place p

  test_tame : (to : List ℕ) (o : Option (List ℕ)) (p : Process) (b : Bytes) → Tame p (tests to o p b)
  test_tame to None p b = record { trailed = refl; opened = λ all named. all }
  test_tame to (Some path) p b = record { trailed = refl; opened = λ all named. all }

  -- ---- spawn, wait, sql

  script_fine : (o : Option (List Instr)) (spawning : SpawnRequest) (path : List ℕ) (x : Solo) → Fine P x (spawns_script o spawning path x)
  script_fine None spawning path x = noting_fine _ x _ refl (λ all. all)
  script_fine (Some script) spawning path x =
      record { named = refl; opened = λ all named. all; born = (refl, omega arith, refl) }

  file_fine : (o : Option (List ℕ)) (room : Bool) (spawning : SpawnRequest) (path : List ℕ) (x : Solo)
      → Fine P x (spawns_file o room spawning path x)
  file_fine None room spawning path x = noting_fine _ x _ refl (λ all. all)
  file_fine (Some bytes) room spawning path x = script_fine (script_in room bytes) spawning path x

  spawn_fine : (o : Option (List ℕ)) (spawning : SpawnRequest) (b : Board) (x : Solo) → Fine P x (spawns o spawning b x)
  spawn_fine None spawning b x = noting_fine _ x [] refl (λ all. all)
  spawn_fine (Some path) spawning b x = file_fine (b.bytes path) (has_room b) spawning path x

  until_fine : (o : Option ℕ) (to : List ℕ) (x : Solo) → Fine P x (waits_until o to x)
  until_fine None to x = noting_fine _ x [] refl (λ all. all)
  until_fine (Some status) to x = noting_fine _ x [] refl (λ all. all)

  wait_fine : (o : Option (List ℕ)) (to : List ℕ) (b : Board) (x : Solo) → Fine P x (waits o to b x)
  wait_fine None to b x = noting_fine _ x [] refl (λ all. all)
  wait_fine (Some child) to b x = until_fine (status_of b child) to x

  next_fine : (a : Ask) (es : List Entry) (x : Solo) → Fine P x (asks_next a es x)
  next_fine a [] x = record { named = refl; opened = λ all named. all; born = refl }
  next_fine a (entry ∷ es) x = elim (cases_Bool (is_recorded a.question entry)) [
    | inl hit ↦ rw hit (record { named = refl; opened = λ all named. all; born = refl })
    | inr miss ↦ rw miss (record { named = refl; opened = λ all named. all; born = refl })
  ]

  asks_fine : (o : Option Ask) (es : List Entry) (x : Solo) → Fine P x (asks o es x)
  asks_fine None es x = noting_fine _ x [] refl (λ all. all)
  asks_fine (Some a) es x = next_fine a es x

  -- ---- every instruction

  pub fine_at : (i : Instr) (b : Board) (x : Solo) → Fine P x (deed_of i b x)
  fine_at (instr.Let to value) b x = plain_fine _ x refl (keeps_variable P to (operand_value x.own value) x.own)
  fine_at (instr.Calc to op left right) b x =
      let v : Value = operand_value x.own left in
      let w : Value = operand_value x.own right in
      plain_fine _ x (trail_assign to (calculation op v w) x.own) (keeps_assign P to (calculation op v w) x.own (calculated_byte op v w))
  fine_at (instr.Glue to left right) b x =
      let v : Value = operand_value x.own left in
      let w : Value = operand_value x.own right in
      plain_fine _ x (trail_assign to (concatenation v w) x.own) (keeps_glue P to v w x.own)
  fine_at (instr.ToInt to value) b x =
      let v : Value = operand_value x.own value in
      plain_fine _ x (trail_assign to (to_number v) x.own) (keeps_assign P to (to_number v) x.own (to_number_byte v))
  fine_at (instr.Cut before after by) b x =
      let v : Value = operand_value x.own by in
      let w : Value = operand_value x.own (Variable after) in
      plain_fine _ x (trail_cut before after v w x.own) (keeps_cut P before after v w x.own)
  fine_at (instr.Jump place) b x = plain_fine _ x refl (keeps_place P place x.own)
  fine_at (instr.JumpIf op left right place) b x =
      let goes : Bool = meets op (order (operand_value x.own left) (operand_value x.own right)) in
      plain_fine _ x (trail_jump goes place x.own) (keeps_jump P goes place x.own)
  fine_at (instr.Print operands) b x =
      let text : List ℕ = printed_line (operand_values x.own operands) in
      plain_fine _ x (trail_line text x.own) (keeps_line P text x.own)
  fine_at (instr.Exit code) b x =
      let v : Value = operand_value x.own code in
      plain_fine _ x refl (keeps_end P (exit_status v) x.own (exit_byte v))
  fine_at (instr.OpenPath file mode path place) b x =
      moved_fine (opens file mode (path_at path x.own) place x.own b.bytes) x
      (opens_tame file mode (path_at path x.own) place x.own b.bytes)
  fine_at (instr.ReadLine to file place) b x =
      moved_fine (reads (open_for allows_read file x.own) to file place x.own b.bytes) x
      (reads_tame (open_for allows_read file x.own) to file place x.own b.bytes)
  fine_at (instr.WriteLine file operands) b x =
      let text : List ℕ = printed_line (operand_values x.own operands) in
      moved_fine (writes (open_for allows_write file x.own) text x.own b.bytes) x
      (write_tame (open_for allows_write file x.own) text x.own b.bytes)
  fine_at (instr.CopyRest source target) b x =
      moved_fine (copies source (open_for allows_read source x.own) (open_for allows_write target x.own) x.own b.bytes) x
      (copy_tame source (open_for allows_read source x.own) (open_for allows_write target x.own) x.own b.bytes)
  fine_at (instr.Close file) b x =
      plain_fine _ x (trail_close (lookup file x.own.files) file x.own) (keeps_close P (lookup file x.own.files) file x.own)
  fine_at (instr.Remove path place) b x =
      moved_fine (removes (path_at path x.own) place x.own b.bytes) x (remove_tame (path_at path x.own) place x.own b.bytes)
  fine_at (instr.Exists to path) b x =
      moved_fine (tests to (path_at path x.own) x.own b.bytes) x (test_tame to (path_at path x.own) x.own b.bytes)
  fine_at (instr.Spawn child path arguments place) b x =
      spawn_fine (path_at path x.own) (spawning_of child arguments place x.own) b x
  fine_at (instr.Wait to child) b x = wait_fine (lookup child x.kids) to b x
  fine_at (instr.Sql cursor text params) b x =
      asks_fine (ask cursor (operand_value x.own text) (operand_values x.own params) x.own) (b.left x.own.name) x
  fine_at (instr.Fetch cursor to place) b x =
      plain_fine _ x (trail_fetch (lookup cursor x.own.cursors) cursor to place x.own)
      (keeps_fetch P (lookup cursor x.own.cursors) cursor to place x.own)
  fine_at (instr.Count to cursor) b x =
      let o = lookup cursor x.own.cursors in
      plain_fine _ x (trail_assign to (row_count o) x.own) (keeps_assign P to (row_count o) x.own (counted_byte o))
  fine_at (instr.Status to cursor) b x =
      let o = lookup cursor x.own.cursors in
      plain_fine _ x (trail_assign to (status_value o) x.own) (keeps_assign P to (status_value o) x.own (status_value_byte o))

  fine_by : (o : Option Instr) (b : Board) (x : Solo) → Fine P x (deed_by o b x)
  fine_by None b x = noting_fine (with_exit_status 0 x.own) x [] refl (λ all. all)
  fine_by (Some i) b x = fine_at i b x

  pub deed_fine : (b : Board) (x : Solo) → Fine P x (deed b x)
  deed_fine b x = fine_by (next_of x) b x

-- ---- what is changed is owned

module _ (owner : Owner) (who : List ℕ) where
  abbrev pub OwnChange : Change → Type 0
  OwnChange Still = Unit {0}
  OwnChange (Sets at o touches) = owner at ≡ Some who

  unless_owns : (r : Option FileRefusal) (o : Option (List ℕ)) (name : List ℕ) (mode : OpenMode) (path : List ℕ) (place : ℕ)
      (p : Process) → Fit owner who (opens_unless r o name mode path place p).uses → OwnChange (opens_unless r o name mode path place p).change
  unless_owns (Some refusal) o name mode path place p fit = tt
  unless_owns None o name modes.Read path place p fit = tt
  unless_owns None o name modes.Write path place p fit = fit.0.changed refl
  unless_owns None o name modes.Append path place p fit = fit.0.changed refl
  unless_owns None o name modes.New path place p fit = fit.0.changed refl

  opens_owns : (name : List ℕ) (mode : OpenMode) (o : Option (List ℕ)) (place : ℕ) (p : Process) (b : Bytes)
      → Fit owner who (opens name mode o place p b).uses → OwnChange (opens name mode o place p b).change
  opens_owns name mode None place p b fit = tt
  opens_owns name mode (Some path) place p b fit =
      unless_owns (open_refusal mode (is_some (b path))) (b path) name mode path place p fit

  reads_owns : (o : Option OpenFile) (to name : List ℕ) (place : ℕ) (p : Process) (b : Bytes) → OwnChange (reads o to name place p b).change
  reads_owns None to name place p b = tt
  reads_owns (Some file) to name place p b = tt

  where_owns : (fits : Bool) (o : Option (List ℕ)) (file : OpenFile) (text : List ℕ) (p : Process)
      → Fit owner who (writes_where fits o file text p).uses → OwnChange (writes_where fits o file text p).change
  where_owns false o file text p fit = tt
  where_owns true o file text p fit = fit.0.changed refl

  writes_owns : (o : Option OpenFile) (text : List ℕ) (p : Process) (b : Bytes)
      → Fit owner who (writes o text p b).uses → OwnChange (writes o text p b).change
  writes_owns None text p b fit = tt
  writes_owns (Some file) text p b fit = where_owns (room_for (b file.path) (length text)) (b file.path) file text p fit

  copied_owns : (fits : Bool) (rest : List ℕ) (o : Option (List ℕ)) (name : List ℕ) (source target : OpenFile) (p : Process)
      → Fit owner who (copies_where fits rest o name source target p).uses → OwnChange (copies_where fits rest o name source target p).change
  copied_owns false rest o name source target p fit = tt
  copied_owns true rest o name source target p fit = fit.1.0.changed refl

  copies_owns : (name : List ℕ) (o r : Option OpenFile) (p : Process) (b : Bytes)
      → Fit owner who (copies name o r p b).uses → OwnChange (copies name o r p b).change
  copies_owns name None r p b fit = tt
  copies_owns name (Some source) None p b fit = tt
  copies_owns name (Some source) (Some target) p b fit =
      copied_owns (room_for (b target.path) (length (rest_of (b source.path) source.place)))
      (rest_of (b source.path) source.place) (b target.path) name source target p fit

  removed_owns : (found : Bool) (path : List ℕ) (place : ℕ) (p : Process)
      → Fit owner who (removes_where found path place p).uses → OwnChange (removes_where found path place p).change
  removed_owns false path place p fit = tt
  removed_owns true path place p fit = fit.0.changed refl

  removes_owns : (o : Option (List ℕ)) (place : ℕ) (p : Process) (b : Bytes)
      → Fit owner who (removes o place p b).uses → OwnChange (removes o place p b).change
  removes_owns None place p b fit = tt
  removes_owns (Some path) place p b fit = removed_owns (is_some (b path)) path place p fit

  tests_owns : (to : List ℕ) (o : Option (List ℕ)) (p : Process) (b : Bytes) → OwnChange (tests to o p b).change
  tests_owns to None p b = tt
  tests_owns to (Some path) p b = tt

  script_owns : (o : Option (List Instr)) (spawning : SpawnRequest) (path : List ℕ) (x : Solo) → OwnChange (spawns_script o spawning path x).change
  script_owns None spawning path x = tt
  script_owns (Some script) spawning path x = tt

  file_owns : (o : Option (List ℕ)) (room : Bool) (spawning : SpawnRequest) (path : List ℕ) (x : Solo)
      → OwnChange (spawns_file o room spawning path x).change
  file_owns None room spawning path x = tt
  file_owns (Some bytes) room spawning path x = script_owns (script_in room bytes) spawning path x

  spawns_owns : (o : Option (List ℕ)) (spawning : SpawnRequest) (b : Board) (x : Solo) → OwnChange (spawns o spawning b x).change
  spawns_owns None spawning b x = tt
  spawns_owns (Some path) spawning b x = file_owns (b.bytes path) (has_room b) spawning path x

  until_owns : (o : Option ℕ) (to : List ℕ) (x : Solo) → OwnChange (waits_until o to x).change
  until_owns None to x = tt
  until_owns (Some status) to x = tt

  waits_owns : (o : Option (List ℕ)) (to : List ℕ) (b : Board) (x : Solo) → OwnChange (waits o to b x).change
  waits_owns None to b x = tt
  waits_owns (Some child) to b x = until_owns (status_of b child) to x

  next_owns : (a : Ask) (es : List Entry) (x : Solo) → OwnChange (asks_next a es x).change
  next_owns a [] x = tt
  next_owns a (entry ∷ es) x = elim (cases_Bool (is_recorded a.question entry)) [
    | inl hit ↦ rw hit tt
    | inr miss ↦ rw miss tt
  ]

  asks_owns : (o : Option Ask) (es : List Entry) (x : Solo) → OwnChange (asks o es x).change
  asks_owns None es x = tt
  asks_owns (Some a) es x = next_owns a es x

  owns_at : (i : Instr) (b : Board) (x : Solo) → Fit owner who (deed_of i b x).uses → OwnChange (deed_of i b x).change
  owns_at (instr.OpenPath file mode path place) b x fit = opens_owns file mode (path_at path x.own) place x.own b.bytes fit
  owns_at (instr.ReadLine to file place) b x fit = reads_owns (open_for allows_read file x.own) to file place x.own b.bytes
  owns_at (instr.WriteLine file operands) b x fit =
      writes_owns (open_for allows_write file x.own) (printed_line (operand_values x.own operands)) x.own b.bytes fit
  owns_at (instr.CopyRest source target) b x fit =
      copies_owns source (open_for allows_read source x.own) (open_for allows_write target x.own) x.own b.bytes fit
  owns_at (instr.Remove path place) b x fit = removes_owns (path_at path x.own) place x.own b.bytes fit
  owns_at (instr.Exists to path) b x fit = tests_owns to (path_at path x.own) x.own b.bytes
  owns_at (instr.Spawn child path arguments place) b x fit =
      spawns_owns (path_at path x.own) (spawning_of child arguments place x.own) b x
  owns_at (instr.Wait to child) b x fit = waits_owns (lookup child x.kids) to b x
  owns_at (instr.Sql cursor text params) b x fit =
      asks_owns (ask cursor (operand_value x.own text) (operand_values x.own params) x.own) (b.left x.own.name) x
  owns_at other b x fit = tt

  owns_by : (o : Option Instr) (b : Board) (x : Solo) → Fit owner who (deed_by o b x).uses → OwnChange (deed_by o b x).change
  owns_by None b x fit = tt
  owns_by (Some i) b x fit = owns_at i b x fit

  pub deed_owns : (b : Board) (x : Solo) → Fit owner who (deed b x).uses → OwnChange (deed b x).change
  deed_owns b x fit = owns_by (next_of x) b x fit
