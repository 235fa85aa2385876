-- Facts about its process that every step of an instruction keeps: the children, except for `spawn`; a
-- property of the paths of all open files; a status that is none or a byte.
use Rattle.std.proofs.Common.{◌≡◌, ℕ, ◌+◌, ◌^◌, ◌<◌, List, [], ◌∷◌, ◌++◌, length, refl, subst, Bool, true, false, arith, inl, inr}
use Rattle.std.specs.Prelude.{ℤ, pos, negsuc, Option, Some, None, not, ◌||◌, ◌==◌, nat_lt, if◌then◌else◌, option_and_then}
use Rattle.std.specs.List.{AllByRecursion}
use Rattle.std.proofs.lemmas.Bool.{cases_Bool, ltb-true}
use Rattle.ldv_value.specs.FileState.{FileState, is_there, FileRefusal, open_refusal, has_room, rest_at, copy_end, read_line}
use Rattle.ldv_value.specs.Limits.{printed_limit, text_limit}
use Rattle.ldv_value.specs.Shown.{value_text}
use Rattle.ldv_value.specs.declared.line.LineRead.{LineRead}
use Rattle.ldv_value.specs.declared.line.LineRead.TheVariants as lines
use Rattle.script_parse.specs.Number.{number_of}
use Rattle.sql_model.specs.Meaning.{is_null}
use Rattle.run_model.specs.Types.{Value, Null, Int, Text, CalcOp, OpenMode}
use Rattle.run_model.specs.Core.{NameBinding, is_bound, lookup, bind, unbind, OpenFile, Cursor, Process}
use Rattle.run_model.specs.StepBase.{with_exit_status, went_on, went_to, with_variable, Computation, Yields, Misused, number_within, assign}
use Rattle.run_model.specs.StepFiles.{if_allowed, open_for, opened_file, open_unless, open_path, take_line, read_next, write_where, write_text, copy_where, copy_between, close_file, remove_found, remove_path, test_path}
use Rattle.run_model.specs.StepReplies.{with_values, fetch_row, fetch_from, next_row, one_more, row_count, status_value, count_in}
use Rattle.run_model.specs.StepVariables.{calculation, result_of, concatenation, text_within, number_or_misuse, to_number, cut_values, jump_where, print_line, exit_status}

-- ---- statuses

-- none yet, or a byte
abbrev pub IsStatus : Option ℕ → Type 0
IsStatus None = Unit {0}
IsStatus (Some status) = status < 256

-- misuse has such a status
abbrev pub IsByte : Computation → Type 0
IsByte (Yields v) = Unit {0}
IsByte (Misused status) = status < 256

byte_of : (status : ℕ) → status < 256 → IsByte (Misused status)
byte_of status byte = byte

pub within_byte : (z : ℤ) → IsByte (number_within z)
within_byte (pos n) = elim (cases_Bool (nat_lt n (2 ^ 63))) [
  | inl fits ↦ rw fits tt
  | inr over ↦ let byte : 241 < 256 = omega arith in rw over byte
]
within_byte (negsuc n) = elim (cases_Bool (nat_lt n (2 ^ 63))) [
  | inl fits ↦ rw fits tt
  | inr over ↦ let byte : 241 < 256 = omega arith in rw over byte
]

pub calculated_byte : (op : CalcOp) (v w : Value) → IsByte (calculation op v w)
calculated_byte op Null w = omega arith
calculated_byte op (Int m) Null = omega arith
calculated_byte op (Int m) (Int n) = within_byte (result_of op m n)
calculated_byte op (Int m) (Text t) = omega arith
calculated_byte op (Text s) w = omega arith

text_byte : (text : List ℕ) → IsByte (text_within text)
text_byte text = elim (cases_Bool (nat_lt text_limit (length text))) [
  | inl over ↦ let byte : 242 < 256 = omega arith in rw over byte
  | inr fits ↦ rw fits tt
]

null_byte : (null : Bool) (text : List ℕ) → IsByte (if null then Misused 240 else text_within text)
null_byte true text = omega arith
null_byte false text = text_byte text

number_byte : (o : Option ℤ) → IsByte (number_or_misuse o)
number_byte None = omega arith
number_byte (Some z) = tt

pub to_number_byte : (v : Value) → IsByte (to_number v)
to_number_byte Null = omega arith
to_number_byte (Int z) = tt
to_number_byte (Text t) = number_byte (number_of t)

pub counted_byte : (o : Option Cursor) → IsByte (row_count o)
counted_byte None = omega arith
counted_byte (Some cursor) = within_byte (pos (count_in cursor.reply))

pub status_value_byte : (o : Option Cursor) → IsByte (status_value o)
status_value_byte None = omega arith
status_value_byte (Some cursor) = tt

pub exit_byte : (v : Value) → exit_status v < 256
exit_byte Null = omega arith
exit_byte (Int (pos n)) = elim (cases_Bool (nat_lt n 256)) [
  | inl byte ↦ rw byte (ltb-true n 256 byte)
  | inr other ↦ let misuse : 240 < 256 = omega arith in rw other misuse
]
exit_byte (Int (negsuc n)) = omega arith
exit_byte (Text t) = omega arith

-- ---- open files

module _ (P : List ℕ → Type 0) where
  -- of the path of each
  abbrev pub AllFiles : List (NameBinding OpenFile) → Type 0
  AllFiles files = AllByRecursion (λ b. P b.bound.path) files

  pub unbound_files : (name : List ℕ) (files : List (NameBinding OpenFile)) → AllFiles files → AllFiles (unbind name files)
  unbound_files name [] all = tt
  unbound_files name (b ∷ files) all = elim (cases_Bool (is_bound name b)) [
    | inl hit ↦ rw hit (unbound_files name files all.1)
    | inr miss ↦ rw miss (all.0, unbound_files name files all.1)
  ]

  pub found_file : (name : List ℕ) (files : List (NameBinding OpenFile)) (file : OpenFile) → AllFiles files
      → lookup name files ≡ Some file → P file.path
  found_file name [] file all is = absurd cc
  found_file name (b ∷ files) file all is = elim (cases_Bool (is_bound name b)) [
    | inl hit ↦
        let found : Some b.bound ≡ Some file = rw hit at is in
        let same : b.bound ≡ file = cc in
        subst (λ (f : OpenFile). P f.path) same all.0
    | inr miss ↦ found_file name files file all.1 (rw miss at is)
  ]

  allowed_file : (allows : OpenMode → Bool) (o : Option OpenFile) (file : OpenFile)
      → ((f : OpenFile) → o ≡ Some f → P f.path) → option_and_then (if_allowed allows) o ≡ Some file → P file.path
  allowed_file allows None file all is = absurd cc
  allowed_file allows (Some f) file all is = elim (cases_Bool (allows f.mode)) [
    | inl may ↦
        let found : Some f ≡ Some file = rw may at is in
        let same : f ≡ file = cc in
        subst (λ (g : OpenFile). P g.path) same (all f refl)
    | inr not ↦ let never : None ≡ Some file = rw not at is in absurd cc
  ]

  -- the file that is open for what is done
  pub open_holds : (allows : OpenMode → Bool) (name : List ℕ) (p : Process) (file : OpenFile) → AllFiles p.files
      → open_for allows name p ≡ Some file → P file.path
  open_holds allows name p file all is =
      allowed_file allows (lookup name p.files) file (λ f here. found_file name p.files f all here) is

-- ---- what is left of a process

pub record Keeps (P : List ℕ → Type 0) (p q : Process) : Type 0 where
  pub children : q.children ≡ p.children
  pub files : AllFiles P p.files → AllFiles P q.files
  pub status : IsStatus p.status → IsStatus q.status

module _ (P : List ℕ → Type 0) where
  -- a step of its own that ends it not
  pub keeps_place : (place : ℕ) (p : Process) → Keeps P p (went_to place p)
  keeps_place place p = record { children = refl; files = λ all. all; status = λ byte. byte }

  pub keeps_next : (p : Process) → Keeps P p (went_on p)
  keeps_next p = record { children = refl; files = λ all. all; status = λ byte. byte }

  pub keeps_variable : (name : List ℕ) (v : Value) (p : Process) → Keeps P p (went_on (with_variable name v p))
  keeps_variable name v p = record { children = refl; files = λ all. all; status = λ byte. byte }

  pub keeps_end : (status : ℕ) (p : Process) → status < 256 → Keeps P p (with_exit_status status p)
  keeps_end status p byte = record { children = refl; files = λ all. all; status = λ old. byte }

  pub keeps_assign : (name : List ℕ) (c : Computation) (p : Process) → IsByte c → Keeps P p (assign name c p)
  keeps_assign name (Yields v) p byte = keeps_variable name v p
  keeps_assign name (Misused status) p byte = keeps_end status p byte

  pub keeps_glue : (name : List ℕ) (v w : Value) (p : Process) → Keeps P p (assign name (concatenation v w) p)
  keeps_glue name v w p = keeps_assign name (concatenation v w) p (null_byte (is_null v || is_null w) (value_text v ++ value_text w))

  pub keeps_cut : (before after : List ℕ) (by text : Value) (p : Process) → Keeps P p (cut_values before after by text p)
  keeps_cut before after Null text p = keeps_end 240 p (omega arith)
  keeps_cut before after (Int n) text p = keeps_end 240 p (omega arith)
  keeps_cut before after (Text []) text p = keeps_end 240 p (omega arith)
  keeps_cut before after (Text (b ∷ bs)) Null p = keeps_end 240 p (omega arith)
  keeps_cut before after (Text (b ∷ bs)) (Int n) p = keeps_end 240 p (omega arith)
  keeps_cut before after (Text (b ∷ bs)) (Text text) p = record { children = refl; files = λ all. all; status = λ byte. byte }

  pub keeps_jump : (goes : Bool) (place : ℕ) (p : Process) → Keeps P p (jump_where goes place p)
  keeps_jump true place p = keeps_place place p
  keeps_jump false place p = keeps_next p

  pub keeps_line : (text : List ℕ) (p : Process) → Keeps P p (print_line text p)
  keeps_line text p = elim (cases_Bool (nat_lt printed_limit (length p.printed + length text))) [
    | inl over ↦ rw over (keeps_end 242 p (omega arith))
    | inr fits ↦ rw fits (record { children = refl; files = λ all. all; status = λ byte. byte })
  ]

  keeps_values : (names : List (List ℕ)) (values : List Value) (p : Process) → Keeps P p (went_on (with_values names values p))
  keeps_values [] values p = keeps_next p
  keeps_values (name ∷ names) [] p = keeps_next p
  keeps_values (name ∷ names) (v ∷ values) p =
      let rest : Keeps P (with_variable name v p) (went_on (with_values names values (with_variable name v p))) =
      keeps_values names values (with_variable name v p) in
      record { children = rest.children; files = rest.files; status = rest.status }

  keeps_row : (o : Option (List Value)) (cursor : Cursor) (name : List ℕ) (to : List (List ℕ)) (place : ℕ) (p : Process)
      → Keeps P p (fetch_row o cursor name to place p)
  keeps_row None cursor name to place p = keeps_place place p
  keeps_row (Some row) cursor name to place p = elim (cases_Bool (length row == length to)) [
    | inl fits ↦
        let rest : Keeps P (one_more name cursor p) (went_on (with_values to row (one_more name cursor p))) =
        keeps_values to row (one_more name cursor p) in
        rw fits (record { children = rest.children; files = rest.files; status = rest.status })
    | inr differs ↦ rw differs (keeps_end 240 p (omega arith))
  ]

  pub keeps_fetch : (o : Option Cursor) (name : List ℕ) (to : List (List ℕ)) (place : ℕ) (p : Process)
      → Keeps P p (fetch_from o name to place p)
  keeps_fetch None name to place p = keeps_end 240 p (omega arith)
  keeps_fetch (Some cursor) name to place p = keeps_row (next_row cursor) cursor name to place p

  pub keeps_close : (o : Option OpenFile) (name : List ℕ) (p : Process) → Keeps P p (close_file o name p)
  keeps_close None name p = keeps_end 240 p (omega arith)
  keeps_close (Some file) name p = record {
    children = refl;
    files = λ all. unbound_files P name p.files all;
    status = λ byte. byte;
  }

  -- ---- steps that look at the files

  -- with another open file of a path for which it holds
  pub keeps_bound : (name : List ℕ) (file : OpenFile) (p : Process) → (AllFiles P p.files → P file.path)
      → Keeps P p (record (went_on p) { files = bind name file p.files })
  keeps_bound name file p here = record {
    children = refl;
    files = λ all. (here all, unbound_files P name p.files all);
    status = λ byte. byte;
  }

  keeps_unless : (o : Option FileRefusal) (found : Bool) (name : List ℕ) (mode : OpenMode) (path : List ℕ) (place : ℕ)
      (p : Process) (s : FileState) → P path → Keeps P p (open_unless o found name mode path place p s).process
  keeps_unless None found name mode path place p s here = keeps_bound name (opened_file path mode) p (λ all. here)
  keeps_unless (Some refusal) found name mode path place p s here = keeps_place place p

  pub keeps_open : (name : List ℕ) (mode : OpenMode) (o : Option (List ℕ)) (place : ℕ) (p : Process) (s : FileState)
      → ((path : List ℕ) → o ≡ Some path → P path) → Keeps P p (open_path name mode o place p s).process
  keeps_open name mode None place p s here = keeps_end 243 p (omega arith)
  keeps_open name mode (Some path) place p s here =
      keeps_unless (open_refusal mode (is_there s path)) (is_there s path) name mode path place p s (here path refl)

  keeps_take : (r : LineRead) (to name : List ℕ) (file : OpenFile) (place : ℕ) (p : Process)
      → (AllFiles P p.files → P file.path) → Keeps P p (take_line r to name file place p)
  keeps_take lines.End to name file place p here = keeps_place place p
  keeps_take (lines.Line line next) to name file place p here = record {
    children = refl;
    files = λ all. (here all, unbound_files P name p.files all);
    status = λ byte. byte;
  }
  keeps_take lines.TooLong to name file place p here = keeps_end 242 p (omega arith)
  keeps_take lines.NotText to name file place p here = keeps_end 244 p (omega arith)

  pub keeps_read : (o : Option OpenFile) (to name : List ℕ) (place : ℕ) (p : Process) (s : FileState)
      → ((file : OpenFile) → AllFiles P p.files → o ≡ Some file → P file.path)
      → Keeps P p (read_next o to name place p s).process
  keeps_read None to name place p s here = keeps_end 240 p (omega arith)
  keeps_read (Some file) to name place p s here =
      keeps_take (read_line s file.path file.place) to name file place p (λ all. here file all refl)

  pub keeps_write_where : (fits : Bool) (file : OpenFile) (text : List ℕ) (p : Process) (s : FileState)
      → Keeps P p (write_where fits file text p s).process
  keeps_write_where false file text p s = keeps_end 242 p (omega arith)
  keeps_write_where true file text p s = keeps_next p

  pub keeps_write : (o : Option OpenFile) (text : List ℕ) (p : Process) (s : FileState)
      → Keeps P p (write_text o text p s).process
  keeps_write None text p s = keeps_end 240 p (omega arith)
  keeps_write (Some file) text p s = keeps_write_where (has_room s file.path (length text)) file text p s

  keeps_copy_where : (fits : Bool) (name : List ℕ) (source target : OpenFile) (p : Process) (s : FileState)
      → (AllFiles P p.files → P source.path) → Keeps P p (copy_where fits name source target p s).process
  keeps_copy_where false name source target p s here = keeps_end 242 p (omega arith)
  keeps_copy_where true name source target p s here =
      keeps_bound name (record source { place = copy_end s source.path source.place }) p here

  pub keeps_copy : (name : List ℕ) (o r : Option OpenFile) (p : Process) (s : FileState)
      → ((file : OpenFile) → AllFiles P p.files → o ≡ Some file → P file.path)
      → Keeps P p (copy_between name o r p s).process
  keeps_copy name None r p s here = keeps_end 240 p (omega arith)
  keeps_copy name (Some source) None p s here = keeps_end 240 p (omega arith)
  keeps_copy name (Some source) (Some target) p s here =
      keeps_copy_where (has_room s target.path (length (rest_at s source.path source.place))) name source target p s
      (λ all. here source all refl)

  keeps_found : (found : Bool) (path : List ℕ) (place : ℕ) (p : Process) (s : FileState)
      → Keeps P p (remove_found found path place p s).process
  keeps_found false path place p s = keeps_place place p
  keeps_found true path place p s = keeps_next p

  pub keeps_remove : (o : Option (List ℕ)) (place : ℕ) (p : Process) (s : FileState)
      → Keeps P p (remove_path o place p s).process
  keeps_remove None place p s = keeps_end 243 p (omega arith)
  keeps_remove (Some path) place p s = keeps_found (is_there s path) path place p s

  pub keeps_test : (to : List ℕ) (o : Option (List ℕ)) (p : Process) (s : FileState)
      → Keeps P p (test_path to o p s).process
  keeps_test to None p s = keeps_end 243 p (omega arith)
  keeps_test to (Some path) p s = record { children = refl; files = λ all. all; status = λ byte. byte }
