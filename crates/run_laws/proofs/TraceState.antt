-- Facts about every state of a run: children are processes that were made, open files have valid paths,
-- statuses are bytes, and the number of processes is within its limit. They say what a step that asks nothing
-- does.
use Rattle.std.proofs.Common.{◌≡◌, ℕ, ◌+◌, ◌<◌, ◌≤◌, List, [], ◌∷◌, ◌++◌, length, refl, sym, ap, ◌∙◌, subst, Bool, true, false, arith, inl, inr}
use Rattle.std.specs.Prelude.{Option, Some, None, not, nat_lt, ◌&&◌, slice_get, slice_set}
use Rattle.std.specs.List.{AllByRecursion}
use Rattle.std.specs.Str.{IsUtf8, is_utf8}
use Rattle.std.proofs.lemmas.Bool.{cases_Bool, ltb-true, and_parts}
use Rattle.std.proofs.lemmas.Str.{IsUtf8-from_is_utf8}
use Rattle.ldv_value.specs.FileState.{FileState, is_there, FileRefusal, open_refusal, has_room, rest_at, content_at}
use Rattle.ldv_value.specs.Limits.{max_processes}
use Rattle.ldv_value.specs.Names.{path_test}
use Rattle.ldv_value.specs.Order.{order, meets}
use Rattle.ldv_value.specs.declared.file.OpenMode.TheVariants as modes
use Rattle.ldv_value.proofs.Lists.{all-weaker}
use Rattle.script_parse.specs.declared.script.Instr.TheVariants as instr
use Rattle.run_laws.specs.Types.{Value, Null, Int, Text, Operand, Variable, OpenMode, Instr, Reply, Act, Started, Spawned, Unspawned, OpenedRead, OpenedWrite, OpenedAppend, OpenedNew, Unopened, Read, Wrote, Removed, Tested, Waited, Ended, Asked}
use Rattle.run_model.specs.Core.{NameBinding, is_bound, lookup, unbind, OpenFile, Process, Core}
use Rattle.run_model.specs.Step.{Ask, process_with_reply, Effect, own, execute, execute_next, local_step_of, local_step, took_of, took, end_acts, status_acts, ends_at}
use Rattle.run_model.specs.StepBase.{operand_value, operand_values, process_effect, FileEffect, on_files}
use Rattle.run_model.specs.StepFiles.{path_in, path_at, open_for, allows_read, allows_write, open_act, open_unless, open_path, read_next, write_where, write_text, write_line, copy_where, copy_between, copy_rest, remove_found, remove_path, test_path}
use Rattle.run_model.specs.StepProcesses.{SpawnRequest, child_of, parent_of, spawn_script, script_within, spawn_file, spawn_path, spawning_of, status_in, wait_until, wait_for}
use Rattle.run_model.specs.StepReplies.{row_count, status_value}
use Rattle.run_model.specs.StepVariables.{calculation, to_number, printed_line, exit_status}
use Rattle.run_model.specs.ValidTrace.{made_after}
use Rattle.run_model.proofs.StepKeeps.{IsStatus, AllFiles, open_holds, Keeps, keeps_place, keeps_variable, keeps_end, keeps_assign, keeps_glue, keeps_cut, keeps_jump, keeps_line, keeps_fetch, keeps_close, keeps_open, keeps_read, keeps_write, keeps_copy, keeps_remove, keeps_test, calculated_byte, to_number_byte, counted_byte, status_value_byte, exit_byte}
use Rattle.run_laws.proofs.ProcessPlaces.{set_length, found_all, set_all}
use Rattle.ldv_value.proofs.ItemLists.{all_append, all_filter}

-- ---- paths

-- a valid one, in UTF-8
abbrev pub IsGoodPath : List ℕ → Type 0
IsGoodPath path = (path_test path ≡ true) × IsUtf8 path

value_path : (v : Value) (path : List ℕ) → path_in v ≡ Some path → IsGoodPath path
value_path Null path is = absurd cc
value_path (Int n) path is = absurd cc
value_path (Text t) path is = elim (cases_Bool (path_test t && is_utf8 t)) [
  | inl fits ↦
      let found : Some t ≡ Some path = rw fits at is in
      let same : t ≡ path = cc in
      let both = and_parts (path_test t) (is_utf8 t) fits in
      subst IsGoodPath same (both.0, IsUtf8-from_is_utf8 t both.1)
  | inr other ↦ let never : None ≡ Some path = rw other at is in absurd cc
]

operand_path : (o : Operand) (p : Process) (path : List ℕ) → path_at o p ≡ Some path → IsGoodPath path
operand_path o p path is = value_path (operand_value p o) path is

-- ---- processes

-- where so many processes were made
pub record GoodProcess (made : ℕ) (p : Process) : Type 0 where
  pub children : AllByRecursion (λ b. b.bound < made) p.children
  pub files : AllFiles IsGoodPath p.files
  pub status : IsStatus p.status

pub record GoodList (ps : List Process) : Type 0 where
  pub each : AllByRecursion (GoodProcess (length ps)) ps
  pub few : length ps ≤ 65535

one_length : (ps : List Process) (q : Process) → length (ps ++ q ∷ []) ≡ length ps + 1
one_length [] q = refl
one_length (p ∷ ps) q = omega (arith, one_length ps q)

-- with another process in place of one
with_good : (number : ℕ) (q : Process) (ps : List Process) → GoodProcess (length ps) q → GoodList ps
    → GoodList (slice_set ps number q)
with_good number q ps here good = record {
  each =
      subst (λ (m : ℕ). AllByRecursion (GoodProcess m) (slice_set ps number q)) (sym (set_length ps number q))
      (set_all (GoodProcess (length ps)) ps number q here good.each);
  few = subst (λ (m : ℕ). m ≤ 65535) (sym (set_length ps number q)) good.few;
}

kept_good : (made : ℕ) (p q : Process) → Keeps IsGoodPath p q → GoodProcess made p → GoodProcess made q
kept_good made p q keeps good = record {
  children = subst (AllByRecursion (λ (b : NameBinding ℕ). b.bound < made)) (sym keeps.children) good.children;
  files = keeps.files good.files;
  status = keeps.status good.status;
}

-- ---- acts

-- an act but a start and a question, where so many processes were made
abbrev pub PlainAct : ℕ → Act → Type 0
PlainAct made (Started path) = ⊥
PlainAct made (Spawned path) = IsGoodPath path × (nat_lt made max_processes ≡ true)
PlainAct made (Unspawned path found) = IsGoodPath path
PlainAct made (OpenedRead path) = IsGoodPath path
PlainAct made (OpenedWrite path) = IsGoodPath path
PlainAct made (OpenedAppend path found) = IsGoodPath path
PlainAct made (OpenedNew path) = IsGoodPath path
PlainAct made (Unopened path found) = IsGoodPath path
PlainAct made (Read path) = IsGoodPath path
PlainAct made (Wrote path) = IsGoodPath path
PlainAct made (Removed path) = IsGoodPath path
PlainAct made (Tested path found) = IsGoodPath path
PlainAct made (Waited child) = child < made
PlainAct made (Ended status) = status < 256
PlainAct made (Asked statement tables reads written) = ⊥

-- one act after another
abbrev pub PlainActs : ℕ → List Act → Type 0
PlainActs made [] = Unit {0}
PlainActs made (act ∷ acts) = PlainAct made act × PlainActs (made_after made act) acts

abbrev pub made_by : ℕ → List Act → ℕ
made_by made [] = made
made_by made (act ∷ acts) = made_by (made_after made act) acts

pub plain_append : (made : ℕ) (xs ys : List Act) → PlainActs made xs → PlainActs (made_by made xs) ys → PlainActs made (xs ++ ys)
plain_append made [] ys first second = second
plain_append made (x ∷ xs) ys first second = (first.0, plain_append (made_after made x) xs ys first.1 second)

pub made_append : (made : ℕ) (xs ys : List Act) → made_by made (xs ++ ys) ≡ made_by (made_by made xs) ys
made_append made [] ys = refl
made_append made (x ∷ xs) ys = made_append (made_after made x) xs ys

-- an act that names a path and makes no process
abbrev PathAct : Act → Type 0
PathAct (Started path) = ⊥
PathAct (Spawned path) = ⊥
PathAct (Unspawned path found) = IsGoodPath path
PathAct (OpenedRead path) = IsGoodPath path
PathAct (OpenedWrite path) = IsGoodPath path
PathAct (OpenedAppend path found) = IsGoodPath path
PathAct (OpenedNew path) = IsGoodPath path
PathAct (Unopened path found) = IsGoodPath path
PathAct (Read path) = IsGoodPath path
PathAct (Wrote path) = IsGoodPath path
PathAct (Removed path) = IsGoodPath path
PathAct (Tested path found) = IsGoodPath path
PathAct (Waited child) = ⊥
PathAct (Ended status) = ⊥
PathAct (Asked statement tables reads written) = ⊥

path_acts : (made : ℕ) (acts : List Act) → AllByRecursion PathAct acts → PlainActs made acts × (made_by made acts ≡ made)
path_acts made [] all = (tt, refl)
path_acts made (Started path ∷ acts) all = absurd all.0
path_acts made (Spawned path ∷ acts) all = absurd all.0
path_acts made (Waited child ∷ acts) all = absurd all.0
path_acts made (Ended status ∷ acts) all = absurd all.0
path_acts made (Asked statement tables reads written ∷ acts) all = absurd all.0
path_acts made (other ∷ acts) all = let rest = path_acts made acts all.1 in ((all.0, rest.0), rest.1)

-- ---- steps that ask nothing

pub record QuietStep (c : Core) (e : Effect) : Type 0 where
  pub good : GoodList e.core.processes
  pub acts : PlainActs (length c.processes) e.acts
  pub made : length e.core.processes ≡ made_by (length c.processes) e.acts
  pub asked : e.core.asked ≡ c.asked

noted_step : (number : ℕ) (q : Process) (acts : List Act) (c : Core) → GoodProcess (length c.processes) q → GoodList c.processes
    → PlainActs (length c.processes) acts → made_by (length c.processes) acts ≡ length c.processes
    → QuietStep c (process_effect number q acts c)
noted_step number q acts c here good plain same = record {
  good = with_good number q c.processes here good;
  acts = plain;
  made = set_length c.processes number q ∙ sym same;
  asked = refl;
}

own_step : (number : ℕ) (p q : Process) (c : Core) → Keeps IsGoodPath p q → GoodProcess (length c.processes) p
    → GoodList c.processes → QuietStep c (own number q c)
own_step number p q c keeps here good =
    noted_step number q [] c (kept_good (length c.processes) p q keeps here) good tt refl

files_step : (number : ℕ) (p : Process) (e : FileEffect) (c : Core) → Keeps IsGoodPath p e.process
    → AllByRecursion PathAct e.acts → GoodProcess (length c.processes) p → GoodList c.processes
    → QuietStep c (on_files number e c)
files_step number p e c keeps acts here good =
    let made : ℕ = length c.processes in
    let plain = path_acts made e.acts acts in
    record {
      good = with_good number e.process c.processes (kept_good made p e.process keeps here) good;
      acts = plain.0;
      made = set_length c.processes number e.process ∙ sym plain.1;
      asked = refl;
    }

-- ---- the acts of steps on files

opened_act : (mode : OpenMode) (path : List ℕ) (found : Bool) → IsGoodPath path → PathAct (open_act mode path found)
opened_act modes.Read path found here = here
opened_act modes.Write path found here = here
opened_act modes.Append path found here = here
opened_act modes.New path found here = here

unless_acts : (o : Option FileRefusal) (found : Bool) (name : List ℕ) (mode : OpenMode) (path : List ℕ) (place : ℕ) (p : Process)
    (s : FileState) → IsGoodPath path → AllByRecursion PathAct (open_unless o found name mode path place p s).acts
unless_acts None found name mode path place p s here = (opened_act mode path found here, tt)
unless_acts (Some refusal) found name mode path place p s here = (here, tt)

open_acts : (name : List ℕ) (mode : OpenMode) (o : Option (List ℕ)) (place : ℕ) (p : Process) (s : FileState)
    → ((path : List ℕ) → o ≡ Some path → IsGoodPath path) → AllByRecursion PathAct (open_path name mode o place p s).acts
open_acts name mode None place p s here = tt
open_acts name mode (Some path) place p s here =
    unless_acts (open_refusal mode (is_there s path)) (is_there s path) name mode path place p s (here path refl)

read_acts : (o : Option OpenFile) (to name : List ℕ) (place : ℕ) (p : Process) (s : FileState)
    → ((file : OpenFile) → o ≡ Some file → IsGoodPath file.path) → AllByRecursion PathAct (read_next o to name place p s).acts
read_acts None to name place p s here = tt
read_acts (Some file) to name place p s here = (here file refl, tt)

write_where_acts : (fits : Bool) (file : OpenFile) (text : List ℕ) (p : Process) (s : FileState) → IsGoodPath file.path
    → AllByRecursion PathAct (write_where fits file text p s).acts
write_where_acts false file text p s here = tt
write_where_acts true file text p s here = (here, tt)

write_acts : (o : Option OpenFile) (text : List ℕ) (p : Process) (s : FileState)
    → ((file : OpenFile) → o ≡ Some file → IsGoodPath file.path) → AllByRecursion PathAct (write_text o text p s).acts
write_acts None text p s here = tt
write_acts (Some file) text p s here = write_where_acts (has_room s file.path (length text)) file text p s (here file refl)

copy_where_acts : (fits : Bool) (name : List ℕ) (source target : OpenFile) (p : Process) (s : FileState)
    → IsGoodPath source.path → IsGoodPath target.path → AllByRecursion PathAct (copy_where fits name source target p s).acts
copy_where_acts false name source target p s here there = (here, tt)
copy_where_acts true name source target p s here there = (here, (there, tt))

copy_acts : (name : List ℕ) (o r : Option OpenFile) (p : Process) (s : FileState)
    → ((file : OpenFile) → o ≡ Some file → IsGoodPath file.path) → ((file : OpenFile) → r ≡ Some file → IsGoodPath file.path)
    → AllByRecursion PathAct (copy_between name o r p s).acts
copy_acts name None r p s here there = tt
copy_acts name (Some source) None p s here there = tt
copy_acts name (Some source) (Some target) p s here there =
    copy_where_acts (has_room s target.path (length (rest_at s source.path source.place))) name source target p s
    (here source refl) (there target refl)

found_acts : (found : Bool) (path : List ℕ) (place : ℕ) (p : Process) (s : FileState) → IsGoodPath path
    → AllByRecursion PathAct (remove_found found path place p s).acts
found_acts false path place p s here = (here, tt)
found_acts true path place p s here = (here, tt)

remove_acts : (o : Option (List ℕ)) (place : ℕ) (p : Process) (s : FileState)
    → ((path : List ℕ) → o ≡ Some path → IsGoodPath path) → AllByRecursion PathAct (remove_path o place p s).acts
remove_acts None place p s here = tt
remove_acts (Some path) place p s here = found_acts (is_there s path) path place p s (here path refl)

test_acts : (to : List ℕ) (o : Option (List ℕ)) (p : Process) (s : FileState)
    → ((path : List ℕ) → o ≡ Some path → IsGoodPath path) → AllByRecursion PathAct (test_path to o p s).acts
test_acts to None p s here = tt
test_acts to (Some path) p s here = (here path refl, tt)

-- ---- spawn

more_children : (made : ℕ) (bs : List (NameBinding ℕ)) → AllByRecursion (λ b. b.bound < made) bs
    → AllByRecursion (λ b. b.bound < made + 1) bs
more_children made bs all =
    all-weaker (λ (b : NameBinding ℕ). b.bound < made) (λ (b : NameBinding ℕ). b.bound < made + 1) (λ b below. omega (arith, below)) bs all

more_process : (made : ℕ) (p : Process) → GoodProcess made p → GoodProcess (made + 1) p
more_process made p good = record { children = more_children made p.children good.children; files = good.files; status = good.status }

more_processes : (made : ℕ) (ps : List Process) → AllByRecursion (GoodProcess made) ps → AllByRecursion (GoodProcess (made + 1)) ps
more_processes made ps all = all-weaker (GoodProcess made) (GoodProcess (made + 1)) (λ p good. more_process made p good) ps all

parent_good : (made : ℕ) (name : List ℕ) (p : Process) → GoodProcess made p → GoodProcess (made + 1) (parent_of made name p)
parent_good made name p good =
    let own : made < made + 1 = omega arith in
    let rest : AllByRecursion (λ (b : NameBinding ℕ). b.bound < made + 1) (unbind name p.children) =
    all_filter (λ (b : NameBinding ℕ). b.bound < made + 1) (λ (b : NameBinding ℕ). not (is_bound name b)) p.children (more_children made p.children good.children) in
    record { children = (own, rest); files = good.files; status = good.status }

script_step : (o : Option (List Instr)) (spawning : SpawnRequest) (path : List ℕ) (number : ℕ) (p : Process) (c : Core)
    → ((script : List Instr) → o ≡ Some script → nat_lt (length c.processes) max_processes ≡ true) → IsGoodPath path
    → GoodProcess (length c.processes) p → GoodList c.processes → QuietStep c (spawn_script o spawning path number p c)
script_step None spawning path number p c room here own good =
    noted_step number _ (Unspawned path true ∷ []) c
    (kept_good (length c.processes) p _ (keeps_place IsGoodPath spawning.place p) own) good (here, tt) refl
script_step (Some script) spawning path number p c room here own good =
    let made : ℕ = length c.processes in
    let fits : nat_lt made max_processes ≡ true = room script refl in
    let below : made < 65535 = ltb-true made max_processes fits in
    let parent : Process = parent_of made spawning.child p in
    let child : Process = child_of p script spawning.arguments in
    let front : List Process = slice_set c.processes number parent in
    let olds : AllByRecursion (GoodProcess (made + 1)) front =
    set_all (GoodProcess (made + 1)) c.processes number parent (parent_good made spawning.child p own) (more_processes made c.processes good.each) in
    let new : GoodProcess (made + 1) child = record { children = tt; files = tt; status = tt } in
    let all : AllByRecursion (GoodProcess (made + 1)) (front ++ child ∷ []) = all_append (GoodProcess (made + 1)) front (child ∷ []) olds (new, tt) in
    let count : length (front ++ child ∷ []) ≡ made + 1 = one_length front child ∙ ap (λ (m : ℕ). m + 1) (set_length c.processes number parent) in
    record {
      good = record {
        each = subst (λ (m : ℕ). AllByRecursion (GoodProcess m) (front ++ child ∷ [])) (sym count) all;
        few = omega (arith, count, below);
      };
      acts = ((here, fits), tt);
      made = count;
      asked = refl;
    }

within_room : (c : Core) (bytes : List ℕ) (script : List Instr) → script_within c bytes ≡ Some script
    → nat_lt (length c.processes) max_processes ≡ true
within_room c bytes script is = elim (cases_Bool (nat_lt (length c.processes) max_processes)) [
  | inl fits ↦ fits
  | inr full ↦ let never : None ≡ Some script = rw full at is in absurd cc
]

file_step : (o : Option (List ℕ)) (spawning : SpawnRequest) (path : List ℕ) (number : ℕ) (p : Process) (c : Core)
    → IsGoodPath path → GoodProcess (length c.processes) p → GoodList c.processes
    → QuietStep c (spawn_file o spawning path number p c)
file_step None spawning path number p c here own good =
    noted_step number _ (Unspawned path false ∷ []) c
    (kept_good (length c.processes) p _ (keeps_place IsGoodPath spawning.place p) own) good (here, tt) refl
file_step (Some bytes) spawning path number p c here own good =
    script_step (script_within c bytes) spawning path number p c (λ script is. within_room c bytes script is) here own good

spawn_step : (o : Option (List ℕ)) (spawning : SpawnRequest) (number : ℕ) (p : Process) (c : Core)
    → ((path : List ℕ) → o ≡ Some path → IsGoodPath path) → GoodProcess (length c.processes) p → GoodList c.processes
    → QuietStep c (spawn_path o spawning number p c)
spawn_step None spawning number p c here own good = own_step number p _ c (keeps_end IsGoodPath 243 p (omega arith)) own good
spawn_step (Some path) spawning number p c here own good =
    file_step (content_at c.files path) spawning path number p c (here path refl) own good

-- ---- wait

lookup_below : (made : ℕ) (name : List ℕ) (bs : List (NameBinding ℕ)) (child : ℕ) → AllByRecursion (λ b. b.bound < made) bs
    → lookup name bs ≡ Some child → child < made
lookup_below made name [] child below is = absurd cc
lookup_below made name (b ∷ bs) child below is = elim (cases_Bool (is_bound name b)) [
  | inl hit ↦
      let found : Some b.bound ≡ Some child = rw hit at is in
      let same : b.bound ≡ child = cc in
      subst (λ (k : ℕ). k < made) same below.0
  | inr miss ↦ lookup_below made name bs child below.1 (rw miss at is)
]

until_step : (o : Option ℕ) (child : ℕ) (to : List ℕ) (number : ℕ) (p : Process) (c : Core) → child < length c.processes
    → GoodProcess (length c.processes) p → GoodList c.processes → QuietStep c (wait_until o child to number p c)
until_step None child to number p c below own good = record { good = good; acts = tt; made = refl; asked = refl }
until_step (Some status) child to number p c below own good =
    noted_step number _ (Waited child ∷ []) c
    (kept_good (length c.processes) p _ (keeps_variable IsGoodPath to _ p) own) good (below, tt) refl

wait_step : (o : Option ℕ) (to : List ℕ) (number : ℕ) (p : Process) (c : Core)
    → ((child : ℕ) → o ≡ Some child → child < length c.processes) → GoodProcess (length c.processes) p → GoodList c.processes
    → QuietStep c (wait_for o to number p c)
wait_step None to number p c below own good = own_step number p _ c (keeps_end IsGoodPath 240 p (omega arith)) own good
wait_step (Some child) to number p c below own good =
    until_step (status_in c.processes child) child to number p c (below child refl) own good

-- ---- every instruction

executes_step : (i : Instr) (number : ℕ) (p : Process) (c : Core) → GoodProcess (length c.processes) p → GoodList c.processes
    → QuietStep c (execute i number p c)
executes_step (instr.Let to value) number p c own good =
    own_step number p _ c (keeps_variable IsGoodPath to (operand_value p value) p) own good
executes_step (instr.Calc to op left right) number p c own good =
    let v : Value = operand_value p left in
    let w : Value = operand_value p right in
    own_step number p _ c (keeps_assign IsGoodPath to (calculation op v w) p (calculated_byte op v w)) own good
executes_step (instr.Glue to left right) number p c own good =
    own_step number p _ c (keeps_glue IsGoodPath to (operand_value p left) (operand_value p right) p) own good
executes_step (instr.ToInt to value) number p c own good =
    let v : Value = operand_value p value in
    own_step number p _ c (keeps_assign IsGoodPath to (to_number v) p (to_number_byte v)) own good
executes_step (instr.Cut before after by) number p c own good =
    own_step number p _ c (keeps_cut IsGoodPath before after (operand_value p by) (operand_value p (Variable after)) p) own good
executes_step (instr.Jump place) number p c own good = own_step number p _ c (keeps_place IsGoodPath place p) own good
executes_step (instr.JumpIf op left right place) number p c own good =
    let goes : Bool = meets op (order (operand_value p left) (operand_value p right)) in
    own_step number p _ c (keeps_jump IsGoodPath goes place p) own good
executes_step (instr.Print operands) number p c own good =
    own_step number p _ c (keeps_line IsGoodPath (printed_line (operand_values p operands)) p) own good
executes_step (instr.Exit code) number p c own good =
    own_step number p _ c (keeps_end IsGoodPath (exit_status (operand_value p code)) p (exit_byte (operand_value p code))) own good
executes_step (instr.OpenPath file mode path place) number p c own good =
    files_step number p (open_path file mode (path_at path p) place p c.files) c
    (keeps_open IsGoodPath file mode (path_at path p) place p c.files (λ q is. operand_path path p q is))
    (open_acts file mode (path_at path p) place p c.files (λ q is. operand_path path p q is)) own good
executes_step (instr.ReadLine to file place) number p c own good =
    files_step number p (read_next (open_for allows_read file p) to file place p c.files) c
    (keeps_read IsGoodPath (open_for allows_read file p) to file place p c.files (λ f all is. open_holds IsGoodPath allows_read file p f all is))
    (read_acts (open_for allows_read file p) to file place p c.files (λ f is. open_holds IsGoodPath allows_read file p f own.files is)) own good
executes_step (instr.WriteLine file operands) number p c own good =
    let text : List ℕ = printed_line (operand_values p operands) in
    files_step number p (write_line file operands p c.files) c
    (keeps_write IsGoodPath (open_for allows_write file p) text p c.files)
    (write_acts (open_for allows_write file p) text p c.files (λ f is. open_holds IsGoodPath allows_write file p f own.files is)) own good
executes_step (instr.CopyRest source target) number p c own good =
    let from : Option OpenFile = open_for allows_read source p in
    let to : Option OpenFile = open_for allows_write target p in
    files_step number p (copy_rest source target p c.files) c
    (keeps_copy IsGoodPath source from to p c.files (λ f all is. open_holds IsGoodPath allows_read source p f all is))
    (copy_acts source from to p c.files (λ f is. open_holds IsGoodPath allows_read source p f own.files is)
    (λ f is. open_holds IsGoodPath allows_write target p f own.files is)) own good
executes_step (instr.Close file) number p c own good =
    own_step number p _ c (keeps_close IsGoodPath (lookup file p.files) file p) own good
executes_step (instr.Remove path place) number p c own good =
    files_step number p (remove_path (path_at path p) place p c.files) c
    (keeps_remove IsGoodPath (path_at path p) place p c.files)
    (remove_acts (path_at path p) place p c.files (λ q is. operand_path path p q is)) own good
executes_step (instr.Exists to path) number p c own good =
    files_step number p (test_path to (path_at path p) p c.files) c
    (keeps_test IsGoodPath to (path_at path p) p c.files)
    (test_acts to (path_at path p) p c.files (λ q is. operand_path path p q is)) own good
executes_step (instr.Spawn child path arguments place) number p c own good =
    spawn_step (path_at path p) (spawning_of child arguments place p) number p c (λ q is. operand_path path p q is) own good
executes_step (instr.Wait to child) number p c own good =
    wait_step (lookup child p.children) to number p c
    (λ k is. lookup_below (length c.processes) child p.children k own.children is) own good
executes_step (instr.Sql cursor text params) number p c own good =
    own_step number p _ c (keeps_end IsGoodPath 240 p (omega arith)) own good
executes_step (instr.Fetch cursor to place) number p c own good =
    own_step number p _ c (keeps_fetch IsGoodPath (lookup cursor p.cursors) cursor to place p) own good
executes_step (instr.Count to cursor) number p c own good =
    let o = lookup cursor p.cursors in
    own_step number p _ c (keeps_assign IsGoodPath to (row_count o) p (counted_byte o)) own good
executes_step (instr.Status to cursor) number p c own good =
    let o = lookup cursor p.cursors in
    own_step number p _ c (keeps_assign IsGoodPath to (status_value o) p (status_value_byte o)) own good

next_step : (i : Option Instr) (number : ℕ) (p : Process) (c : Core) → GoodProcess (length c.processes) p → GoodList c.processes
    → QuietStep c (execute_next i number p c)
next_step None number p c own good = own_step number p _ c (keeps_end IsGoodPath 0 p (omega arith)) own good
next_step (Some i) number p c own good = executes_step i number p c own good

pub quiet_step : (number : ℕ) (p : Process) (c : Core) → slice_get c.processes number ≡ Some p → GoodList c.processes
    → QuietStep c (local_step number c)
quiet_step number p c is good =
    subst (λ (o : Option Process). QuietStep c (local_step_of o number c)) (sym is)
    (next_step (slice_get p.script p.place) number p c (found_all (GoodProcess (length c.processes)) c.processes number p good.each is) good)

-- ---- steps that ask

pub record TookStep (c new : Core) : Type 0 where
  pub good : GoodList new.processes
  pub made : length new.processes ≡ length c.processes
  pub asked : new.asked ≡ c.asked + 1

took_process : (number : ℕ) (p : Process) (a : Ask) (reply : Reply) (c : Core) → GoodProcess (length c.processes) p
    → GoodList c.processes → TookStep c (took_of (Some p) number a reply c)
took_process number p a reply c own good =
    let same : GoodProcess (length c.processes) (process_with_reply a reply p) =
    record { children = own.children; files = own.files; status = own.status } in
    record {
      good = with_good number (process_with_reply a reply p) c.processes same good;
      made = set_length c.processes number (process_with_reply a reply p);
      asked = refl;
    }

pub took_step : (number : ℕ) (p : Process) (a : Ask) (reply : Reply) (c : Core) → slice_get c.processes number ≡ Some p
    → GoodList c.processes → TookStep c (took number a reply c)
took_step number p a reply c is good =
    subst (λ (o : Option Process). TookStep c (took_of o number a reply c)) (sym is)
    (took_process number p a reply c (found_all (GoodProcess (length c.processes)) c.processes number p good.each is) good)

-- ---- the end

status_plain : (made : ℕ) (o : Option ℕ) → IsStatus o → PlainActs made (status_acts o) × (made_by made (status_acts o) ≡ made)
status_plain made None status = (tt, refl)
status_plain made (Some code) status = ((status, tt), refl)

end_plain : (ps : List Process) (o : Option Process) → ((p : Process) → o ≡ Some p → IsStatus p.status)
    → PlainActs (length ps) (end_acts o) × (made_by (length ps) (end_acts o) ≡ length ps)
end_plain ps None status = (tt, refl)
end_plain ps (Some p) status = status_plain (length ps) p.status (status p refl)

pub ends_plain : (number : ℕ) (c : Core) → GoodList c.processes
    → PlainActs (length c.processes) (ends_at number c) × (made_by (length c.processes) (ends_at number c) ≡ length c.processes)
ends_plain number c good =
    end_plain c.processes (slice_get c.processes number)
    (λ p is. (found_all (GoodProcess (length c.processes)) c.processes number p good.each is).status)
