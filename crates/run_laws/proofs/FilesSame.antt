-- Instructions that name a path or an open file make the same step over two states of files that agree, and
-- the states agree afterwards.
use Rattle.std.proofs.Common.{◌≡◌, ℕ, ◌+◌, List, [], ◌∷◌, ◌++◌, length, drop, refl, sym, ap, ◌∙◌, subst, Bool, true, false, arith}
use Rattle.std.specs.Prelude.{Option, Some, None, is_some, map, nat_le, unwrap_or}
use Rattle.ldv_value.specs.FileState.{FileState, is_there, bytes_at, rest_at, put, touch, after_remove, has_room, copy_end, after_copy, after_append, line_read, read_line}
use Rattle.ldv_value.specs.Limits.{file_limit}
use Rattle.ldv_value.specs.declared.file.OpenMode.TheVariants as modes
use Rattle.ldv_value.proofs.FileLaws.{content-put_same}
use Rattle.ldv_value.proofs.SameBytes.{bytes_eq-itself}
use Rattle.run_laws.specs.Types.{OpenMode, Act, OpenedRead, OpenedWrite, OpenedAppend, OpenedNew, Unopened, Read, Wrote, Removed, Tested, Event}
use Rattle.run_model.specs.Core.{OpenFile, Process}
use Rattle.run_model.specs.Events.{event_at}
use Rattle.run_model.specs.Slice.{changed_path}
use Rattle.run_model.specs.StepBase.{with_exit_status, went_on, FileEffect}
use Rattle.run_model.specs.StepFiles.{misuse_effect, at_place, opened_file, open_found, open_path, take_line, read_next, write_where, write_text, copy_where, copy_between, remove_found, remove_path, exists_where, test_path}
use Rattle.run_model.proofs.StepKeeps.{Keeps, keeps_place, keeps_next, keeps_end, keeps_bound, keeps_read}
use Rattle.run_laws.proofs.FilesAgree.{Agrees, SameAt, later_agrees, whole_at, there_at, absent_at, put_agrees, made_agrees, removed_agrees, put_follows, removed_follows}

-- ---- two states after a step

-- they agree on what is needed later, and what had the same bytes has them still
pub record StateSame (later : List Event) (a b c d : FileState) : Type 0 where
  pub agrees : Agrees later c d
  pub follows : (path : List ℕ) → SameAt a b path → SameAt c d path

idle_state : (later : List Event) (a b : FileState) → Agrees later a b → StateSame later a b a b
idle_state later a b agrees = record { agrees = agrees; follows = λ path same. same }

-- a file of the same bytes in both
put_state : (later : List Event) (a b : FileState) (path x y : List ℕ) → x ≡ y → Agrees later a b
    → StateSame later a b (put a path x) (put b path y)
put_state later a b path x y same agrees =
    subst (λ (z : List ℕ). StateSame later a b (put a path z) (put b path y)) (sym same)
    (record { agrees = put_agrees later a b path y agrees; follows = λ q here. put_follows a b path y q here })

-- the same where the act touches the path
made_state : (e : Event) (later : List Event) (a b : FileState) (path x y : List ℕ) → x ≡ y → changed_path e.act ≡ Some path
    → Agrees (e ∷ later) a b → StateSame later a b (touch (put a path x) path) (touch (put b path y) path)
made_state e later a b path x y same changed agrees =
    subst (λ (z : List ℕ). StateSame later a b (touch (put a path z) path) (touch (put b path y) path)) (sym same)
    (record { agrees = made_agrees e later a b path y changed agrees; follows = λ q here. put_follows a b path y q here })

-- the process after it, the acts and the states of files
pub record FileSame (later : List Event) (p : Process) (a b : FileState) (small whole : FileEffect) : Type 0 where
  pub process : small.process ≡ whole.process
  pub acts : small.acts ≡ whole.acts
  pub state : StateSame later a b small.files whole.files
  pub keeps : Keeps (SameAt small.files whole.files) p whole.process

-- the bytes of a path at which both have the same
bytes_same : (a b : FileState) (path : List ℕ) → SameAt a b path → bytes_at a path ≡ bytes_at b path
bytes_same a b path same = ap (λ (o : Option (List ℕ)). unwrap_or o []) same

rest_same : (a b : FileState) (path : List ℕ) (at : ℕ) → SameAt a b path → rest_at a path at ≡ rest_at b path at
rest_same a b path at same = ap (drop at) (bytes_same a b path same)

module _ (step number : ℕ) (later : List Event) where
  abbrev ev : Act → Event
  ev act = event_at step number act

  abbrev told : List Act → List Event
  told acts = map (event_at step number) acts ++ later

  misused_same : (status : ℕ) (p : Process) (a b : FileState) → Keeps (SameAt a b) p (with_exit_status status p) → Agrees later a b
      → FileSame later p a b (misuse_effect status p a) (misuse_effect status p b)
  misused_same status p a b keeps agrees = record { process = refl; acts = refl; state = idle_state later a b agrees; keeps = keeps }

  -- ---- open

  -- the bytes at the path are the same in both
  appended_open : (found : Bool) (name path : List ℕ) (place : ℕ) (p : Process) (a b : FileState) → is_there b path ≡ found → SameAt a b path
      → Agrees (ev (OpenedAppend path found) ∷ later) a b
      → FileSame later p a b (open_found (is_there a path) name modes.Append path place p a) (open_found found name modes.Append path place p b)
  appended_open found name path place p a b is same agrees =
      let there : is_there a path ≡ found = ap is_some same ∙ is in
      let bytes : bytes_at a path ≡ bytes_at b path = bytes_same a b path same in
      let here : SameAt (touch (put a path (bytes_at a path)) path) (touch (put b path (bytes_at b path)) path) path =
      content-put_same a path (bytes_at a path) ∙ ap Some bytes ∙ sym (content-put_same b path (bytes_at b path)) in
      subst (λ (f : Bool). FileSame later p a b (open_found f name modes.Append path place p a) (open_found found name modes.Append path place p b)) (sym there)
      (record {
        process = refl;
        acts = refl;
        state = made_state (ev (OpenedAppend path found)) later a b path (bytes_at a path) (bytes_at b path) bytes refl agrees;
        keeps =
            keeps_bound (SameAt (touch (put a path (bytes_at a path)) path) (touch (put b path (bytes_at b path)) path)) name
            (opened_file path modes.Append) p (λ all. here);
      })

  open_at : (mode : OpenMode) (found : Bool) (name path : List ℕ) (place : ℕ) (p : Process) (a b : FileState) → is_there b path ≡ found
      → Agrees (told (open_found found name mode path place p b).acts) a b
      → FileSame later p a b (open_found (is_there a path) name mode path place p a) (open_found found name mode path place p b)
  open_at modes.Read true name path place p a b is agrees =
      let same : SameAt a b path = whole_at path (ev (OpenedRead path)) later a b (bytes_eq-itself path) agrees in
      let there : is_there a path ≡ true = ap is_some same ∙ is in
      subst (λ (f : Bool). FileSame later p a b (open_found f name modes.Read path place p a) (open_found true name modes.Read path place p b)) (sym there)
      (record {
        process = refl;
        acts = refl;
        state = idle_state later a b (later_agrees (ev (OpenedRead path)) later a b refl agrees);
        keeps = keeps_bound (SameAt a b) name (opened_file path modes.Read) p (λ all. same);
      })
  open_at modes.Read false name path place p a b is agrees =
      let same : SameAt a b path = absent_at path (told (Unopened path false ∷ [])) a b agrees is in
      let there : is_there a path ≡ false = ap is_some same ∙ is in
      subst (λ (f : Bool). FileSame later p a b (open_found f name modes.Read path place p a) (open_found false name modes.Read path place p b)) (sym there)
      (record {
        process = refl;
        acts = refl;
        state = idle_state later a b (later_agrees (ev (Unopened path false)) later a b refl agrees);
        keeps = keeps_place (SameAt a b) place p;
      })
  open_at modes.Write found name path place p a b is agrees = record {
    process = refl;
    acts = refl;
    state = made_state (ev (OpenedWrite path)) later a b path [] [] refl refl agrees;
    keeps =
        keeps_bound (SameAt (touch (put a path []) path) (touch (put b path []) path)) name (opened_file path modes.Write) p
        (λ all. content-put_same a path [] ∙ sym (content-put_same b path []));
  }
  open_at modes.Append true name path place p a b is agrees =
      let same : SameAt a b path = whole_at path (ev (OpenedAppend path true)) later a b (bytes_eq-itself path) agrees in
      appended_open true name path place p a b is same agrees
  open_at modes.Append false name path place p a b is agrees =
      let same : SameAt a b path = absent_at path (told (OpenedAppend path false ∷ [])) a b agrees is in
      appended_open false name path place p a b is same agrees
  open_at modes.New true name path place p a b is agrees =
      let there : is_there a path ≡ true = there_at path (ev (Unopened path true)) later a b (bytes_eq-itself path) agrees is in
      subst (λ (f : Bool). FileSame later p a b (open_found f name modes.New path place p a) (open_found true name modes.New path place p b)) (sym there)
      (record {
        process = refl;
        acts = refl;
        state = idle_state later a b (later_agrees (ev (Unopened path true)) later a b refl agrees);
        keeps = keeps_place (SameAt a b) place p;
      })
  open_at modes.New false name path place p a b is agrees =
      let same : SameAt a b path = absent_at path (told (OpenedNew path ∷ [])) a b agrees is in
      let there : is_there a path ≡ false = ap is_some same ∙ is in
      subst (λ (f : Bool). FileSame later p a b (open_found f name modes.New path place p a) (open_found false name modes.New path place p b)) (sym there)
      (record {
        process = refl;
        acts = refl;
        state = made_state (ev (OpenedNew path)) later a b path [] [] refl refl agrees;
        keeps =
            keeps_bound (SameAt (touch (put a path []) path) (touch (put b path []) path)) name (opened_file path modes.New) p
            (λ all. content-put_same a path [] ∙ sym (content-put_same b path []));
      })

  pub open_same : (name : List ℕ) (mode : OpenMode) (o : Option (List ℕ)) (place : ℕ) (p : Process) (a b : FileState)
      → Agrees (told (open_path name mode o place p b).acts) a b
      → FileSame later p a b (open_path name mode o place p a) (open_path name mode o place p b)
  open_same name mode None place p a b agrees = misused_same 243 p a b (keeps_end (SameAt a b) 243 p (omega arith)) agrees
  open_same name mode (Some path) place p a b agrees = open_at mode (is_there b path) name path place p a b refl agrees

  -- ---- readline

  pub read_same : (o : Option OpenFile) (to name : List ℕ) (place : ℕ) (p : Process) (a b : FileState)
      → ((file : OpenFile) → o ≡ Some file → SameAt a b file.path) → Agrees (told (read_next o to name place p b).acts) a b
      → FileSame later p a b (read_next o to name place p a) (read_next o to name place p b)
  read_same None to name place p a b same agrees = misused_same 240 p a b (keeps_end (SameAt a b) 240 p (omega arith)) agrees
  read_same (Some file) to name place p a b same agrees =
      let line : read_line a file.path file.place ≡ read_line b file.path file.place =
      ap (line_read file.place) (rest_same a b file.path file.place (same file refl)) in
      record {
        process = ap (λ r. take_line r to name file place p) line;
        acts = refl;
        state = idle_state later a b (later_agrees (ev (Read file.path)) later a b refl agrees);
        keeps = keeps_read (SameAt a b) (Some file) to name place p b (λ f all is. same f is);
      }

  -- ---- write

  write_fits : (fits : Bool) (file : OpenFile) (text : List ℕ) (p : Process) (a b : FileState) → SameAt a b file.path
      → Agrees (told (write_where fits file text p b).acts) a b
      → FileSame later p a b (write_where fits file text p a) (write_where fits file text p b)
  write_fits false file text p a b same agrees = misused_same 242 p a b (keeps_end (SameAt a b) 242 p (omega arith)) agrees
  write_fits true file text p a b same agrees = record {
    process = refl;
    acts = refl;
    state =
        put_state later a b file.path (bytes_at a file.path ++ text) (bytes_at b file.path ++ text)
        (ap (λ (x : List ℕ). x ++ text) (bytes_same a b file.path same))
        (later_agrees (ev (Wrote file.path)) later a b refl agrees);
    keeps = keeps_next (SameAt (after_append a file.path text) (after_append b file.path text)) p;
  }

  room_same : (a b : FileState) (path : List ℕ) (count : ℕ) → SameAt a b path → has_room a path count ≡ has_room b path count
  room_same a b path count same = ap (λ (x : List ℕ). nat_le (length x + count) file_limit) (bytes_same a b path same)

  pub write_same : (o : Option OpenFile) (text : List ℕ) (p : Process) (a b : FileState)
      → ((file : OpenFile) → o ≡ Some file → SameAt a b file.path) → Agrees (told (write_text o text p b).acts) a b
      → FileSame later p a b (write_text o text p a) (write_text o text p b)
  write_same None text p a b same agrees = misused_same 240 p a b (keeps_end (SameAt a b) 240 p (omega arith)) agrees
  write_same (Some file) text p a b same agrees =
      subst
      (λ (f : Bool). FileSame later p a b (write_where f file text p a) (write_where (has_room b file.path (length text)) file text p b))
      (sym (room_same a b file.path (length text) (same file refl)))
      (write_fits (has_room b file.path (length text)) file text p a b (same file refl) agrees)

  -- ---- copy

  copy_fits : (fits : Bool) (name : List ℕ) (source target : OpenFile) (p : Process) (a b : FileState)
      → SameAt a b source.path → SameAt a b target.path
      → Agrees (told (copy_where fits name source target p b).acts) a b
      → FileSame later p a b (copy_where fits name source target p a) (copy_where fits name source target p b)
  copy_fits false name source target p a b from to agrees = record {
    process = refl;
    acts = refl;
    state = idle_state later a b (later_agrees (ev (Read source.path)) later a b refl agrees);
    keeps = keeps_end (SameAt a b) 242 p (omega arith);
  }
  copy_fits true name source target p a b from to agrees =
      let rest : rest_at a source.path source.place ≡ rest_at b source.path source.place = rest_same a b source.path source.place from in
      let bytes : bytes_at a target.path ≡ bytes_at b target.path = bytes_same a b target.path to in
      let end : copy_end a source.path source.place ≡ copy_end b source.path source.place =
      ap (λ (x : List ℕ). source.place + length x) rest in
      let state : StateSame later a b (after_copy a source.path source.place target.path) (after_copy b source.path source.place target.path) =
      put_state later a b target.path (bytes_at a target.path ++ rest_at a source.path source.place)
      (bytes_at b target.path ++ rest_at b source.path source.place) (λ j. bytes j ++ rest j)
      (later_agrees (ev (Wrote target.path)) later a b refl (later_agrees (ev (Read source.path)) (ev (Wrote target.path) ∷ later) a b refl agrees)) in
      record {
        process = ap (λ (n : ℕ). went_on (at_place name source n p)) end;
        acts = refl;
        state = state;
        keeps =
            keeps_bound (SameAt (after_copy a source.path source.place target.path) (after_copy b source.path source.place target.path)) name
            (record source { place = copy_end b source.path source.place }) p (λ all. state.follows source.path from);
      }

  pub copy_same : (name : List ℕ) (o r : Option OpenFile) (p : Process) (a b : FileState)
      → ((file : OpenFile) → o ≡ Some file → SameAt a b file.path) → ((file : OpenFile) → r ≡ Some file → SameAt a b file.path)
      → Agrees (told (copy_between name o r p b).acts) a b
      → FileSame later p a b (copy_between name o r p a) (copy_between name o r p b)
  copy_same name None r p a b from to agrees = misused_same 240 p a b (keeps_end (SameAt a b) 240 p (omega arith)) agrees
  copy_same name (Some source) None p a b from to agrees = misused_same 240 p a b (keeps_end (SameAt a b) 240 p (omega arith)) agrees
  copy_same name (Some source) (Some target) p a b from to agrees =
      let count : length (rest_at a source.path source.place) ≡ length (rest_at b source.path source.place) =
      ap length (rest_same a b source.path source.place (from source refl)) in
      let room : has_room a target.path (length (rest_at a source.path source.place)) ≡ has_room b target.path (length (rest_at b source.path source.place)) =
      room_same a b target.path (length (rest_at a source.path source.place)) (to target refl) ∙ ap (has_room b target.path) count in
      subst
      (λ (f : Bool). FileSame later p a b (copy_where f name source target p a) (copy_where (has_room b target.path (length (rest_at b source.path source.place))) name source target p b))
      (sym room)
      (copy_fits (has_room b target.path (length (rest_at b source.path source.place))) name source target p a b (from source refl) (to target refl) agrees)

  -- ---- remove

  remove_at : (found : Bool) (path : List ℕ) (place : ℕ) (p : Process) (a b : FileState) → is_there b path ≡ found
      → Agrees (told (remove_found found path place p b).acts) a b
      → FileSame later p a b (remove_found (is_there a path) path place p a) (remove_found found path place p b)
  remove_at false path place p a b is agrees =
      let there : is_there a path ≡ false = ap is_some (absent_at path (told (Tested path false ∷ [])) a b agrees is) ∙ is in
      subst (λ (f : Bool). FileSame later p a b (remove_found f path place p a) (remove_found false path place p b)) (sym there)
      (record {
        process = refl;
        acts = refl;
        state = idle_state later a b (later_agrees (ev (Tested path false)) later a b refl agrees);
        keeps = keeps_place (SameAt a b) place p;
      })
  remove_at true path place p a b is agrees =
      let there : is_there a path ≡ true = there_at path (ev (Removed path)) later a b (bytes_eq-itself path) agrees is in
      subst (λ (f : Bool). FileSame later p a b (remove_found f path place p a) (remove_found true path place p b)) (sym there)
      (record {
        process = refl;
        acts = refl;
        state = record {
          agrees = removed_agrees (ev (Removed path)) later a b path refl agrees;
          follows = λ q same. removed_follows a b path q same;
        };
        keeps = keeps_next (SameAt (after_remove a path) (after_remove b path)) p;
      })

  pub remove_same : (o : Option (List ℕ)) (place : ℕ) (p : Process) (a b : FileState)
      → Agrees (told (remove_path o place p b).acts) a b
      → FileSame later p a b (remove_path o place p a) (remove_path o place p b)
  remove_same None place p a b agrees = misused_same 243 p a b (keeps_end (SameAt a b) 243 p (omega arith)) agrees
  remove_same (Some path) place p a b agrees = remove_at (is_there b path) path place p a b refl agrees

  -- ---- exists

  -- a test changes nothing
  exists_idle : (found : Bool) (to path : List ℕ) (p : Process) (a b : FileState) → is_there a path ≡ found
      → Agrees (ev (Tested path found) ∷ later) a b
      → FileSame later p a b (exists_where (is_there a path) to path p a) (exists_where found to path p b)
  exists_idle found to path p a b there agrees =
      subst (λ (f : Bool). FileSame later p a b (exists_where f to path p a) (exists_where found to path p b)) (sym there)
      (record {
        process = refl;
        acts = refl;
        state = idle_state later a b (later_agrees (ev (Tested path found)) later a b refl agrees);
        keeps = record { children = refl; files = λ all. all; status = λ byte. byte };
      })

  exists_at : (found : Bool) (to path : List ℕ) (p : Process) (a b : FileState) → is_there b path ≡ found
      → Agrees (ev (Tested path found) ∷ later) a b
      → FileSame later p a b (exists_where (is_there a path) to path p a) (exists_where found to path p b)
  exists_at false to path p a b is agrees =
      exists_idle false to path p a b (ap is_some (absent_at path (ev (Tested path false) ∷ later) a b agrees is) ∙ is) agrees
  exists_at true to path p a b is agrees =
      exists_idle true to path p a b (there_at path (ev (Tested path true)) later a b (bytes_eq-itself path) agrees is) agrees

  pub test_same : (to : List ℕ) (o : Option (List ℕ)) (p : Process) (a b : FileState)
      → Agrees (told (test_path to o p b).acts) a b
      → FileSame later p a b (test_path to o p a) (test_path to o p b)
  test_same to None p a b agrees = misused_same 243 p a b (keeps_end (SameAt a b) 243 p (omega arith)) agrees
  test_same to (Some path) p a b agrees = exists_at (is_there b path) to path p a b refl agrees
