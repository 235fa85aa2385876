-- A step that asks nothing has no act of a statement.
use Rattle.std.proofs.Common.{ℕ, List, ◌++◌, length, Bool, true, false}
use Rattle.std.specs.Prelude.{Option, Some, None, slice_get}
use Rattle.std.specs.List.{AllByRecursion}
use Rattle.ldv_value.specs.FileState.{FileState, is_there, FileRefusal, open_refusal, has_room, rest_at, content_at}
use Rattle.ldv_value.specs.declared.file.OpenMode.TheVariants as modes
use Rattle.script_parse.specs.declared.script.Instr.TheVariants as instr
use Rattle.ldv_value.proofs.ItemLists.{all_append}
use Rattle.run_laws.specs.Types.{OpenMode, Instr, Act, Asked}
use Rattle.run_model.specs.Core.{OpenFile, lookup, Process, Core}
use Rattle.run_model.specs.Step.{Effect, execute, execute_next, local_step_of, local_step, status_acts, end_acts, ends_at}
use Rattle.run_model.specs.StepBase.{operand_values}
use Rattle.run_model.specs.StepFiles.{path_at, open_for, allows_read, allows_write, open_act, open_unless, open_path, read_next, write_where, write_text, copy_where, copy_between, remove_found, remove_path, test_path}
use Rattle.run_model.specs.StepProcesses.{SpawnRequest, spawn_script, script_within, spawn_file, spawn_path, spawning_of, status_in, wait_until, wait_for}
use Rattle.run_model.specs.StepVariables.{printed_line}

abbrev pub Unasked : Act → Type 0
Unasked (Asked statement tables reads made) = ⊥
Unasked other = Unit {0}

-- ---- files

opened_act : (mode : OpenMode) (path : List ℕ) (found : Bool) → Unasked (open_act mode path found)
opened_act modes.Read path found = tt
opened_act modes.Write path found = tt
opened_act modes.Append path found = tt
opened_act modes.New path found = tt

unless_acts : (o : Option FileRefusal) (found : Bool) (name : List ℕ) (mode : OpenMode) (path : List ℕ) (place : ℕ) (p : Process)
    (s : FileState) → AllByRecursion Unasked (open_unless o found name mode path place p s).acts
unless_acts None found name mode path place p s = (opened_act mode path found, tt)
unless_acts (Some refusal) found name mode path place p s = (tt, tt)

open_acts : (name : List ℕ) (mode : OpenMode) (o : Option (List ℕ)) (place : ℕ) (p : Process) (s : FileState)
    → AllByRecursion Unasked (open_path name mode o place p s).acts
open_acts name mode None place p s = tt
open_acts name mode (Some path) place p s =
    unless_acts (open_refusal mode (is_there s path)) (is_there s path) name mode path place p s

read_acts : (o : Option OpenFile) (to name : List ℕ) (place : ℕ) (p : Process) (s : FileState)
    → AllByRecursion Unasked (read_next o to name place p s).acts
read_acts None to name place p s = tt
read_acts (Some file) to name place p s = (tt, tt)

write_where_acts : (fits : Bool) (file : OpenFile) (text : List ℕ) (p : Process) (s : FileState)
    → AllByRecursion Unasked (write_where fits file text p s).acts
write_where_acts false file text p s = tt
write_where_acts true file text p s = (tt, tt)

write_acts : (o : Option OpenFile) (text : List ℕ) (p : Process) (s : FileState)
    → AllByRecursion Unasked (write_text o text p s).acts
write_acts None text p s = tt
write_acts (Some file) text p s = write_where_acts (has_room s file.path (length text)) file text p s

copy_where_acts : (fits : Bool) (name : List ℕ) (source target : OpenFile) (p : Process) (s : FileState)
    → AllByRecursion Unasked (copy_where fits name source target p s).acts
copy_where_acts false name source target p s = (tt, tt)
copy_where_acts true name source target p s = (tt, (tt, tt))

copy_acts : (name : List ℕ) (o r : Option OpenFile) (p : Process) (s : FileState)
    → AllByRecursion Unasked (copy_between name o r p s).acts
copy_acts name None r p s = tt
copy_acts name (Some source) None p s = tt
copy_acts name (Some source) (Some target) p s =
    copy_where_acts (has_room s target.path (length (rest_at s source.path source.place))) name source target p s

found_acts : (found : Bool) (path : List ℕ) (place : ℕ) (p : Process) (s : FileState)
    → AllByRecursion Unasked (remove_found found path place p s).acts
found_acts false path place p s = (tt, tt)
found_acts true path place p s = (tt, tt)

remove_acts : (o : Option (List ℕ)) (place : ℕ) (p : Process) (s : FileState)
    → AllByRecursion Unasked (remove_path o place p s).acts
remove_acts None place p s = tt
remove_acts (Some path) place p s = found_acts (is_there s path) path place p s

test_acts : (to : List ℕ) (o : Option (List ℕ)) (p : Process) (s : FileState)
    → AllByRecursion Unasked (test_path to o p s).acts
test_acts to None p s = tt
test_acts to (Some path) p s = (tt, tt)

-- ---- processes

script_acts : (o : Option (List Instr)) (spawning : SpawnRequest) (path : List ℕ) (number : ℕ) (p : Process) (c : Core)
    → AllByRecursion Unasked (spawn_script o spawning path number p c).acts
script_acts None spawning path number p c = (tt, tt)
script_acts (Some script) spawning path number p c = (tt, tt)

file_acts : (o : Option (List ℕ)) (spawning : SpawnRequest) (path : List ℕ) (number : ℕ) (p : Process) (c : Core)
    → AllByRecursion Unasked (spawn_file o spawning path number p c).acts
file_acts None spawning path number p c = (tt, tt)
file_acts (Some bytes) spawning path number p c = script_acts (script_within c bytes) spawning path number p c

spawn_acts : (o : Option (List ℕ)) (spawning : SpawnRequest) (number : ℕ) (p : Process) (c : Core)
    → AllByRecursion Unasked (spawn_path o spawning number p c).acts
spawn_acts None spawning number p c = tt
spawn_acts (Some path) spawning number p c = file_acts (content_at c.files path) spawning path number p c

until_acts : (o : Option ℕ) (child : ℕ) (to : List ℕ) (number : ℕ) (p : Process) (c : Core)
    → AllByRecursion Unasked (wait_until o child to number p c).acts
until_acts None child to number p c = tt
until_acts (Some status) child to number p c = (tt, tt)

wait_acts : (o : Option ℕ) (to : List ℕ) (number : ℕ) (p : Process) (c : Core)
    → AllByRecursion Unasked (wait_for o to number p c).acts
wait_acts None to number p c = tt
wait_acts (Some child) to number p c = until_acts (status_in c.processes child) child to number p c

-- ---- every instruction

executes_acts : (i : Instr) (number : ℕ) (p : Process) (c : Core) → AllByRecursion Unasked (execute i number p c).acts
executes_acts (instr.OpenPath file mode path place) number p c = open_acts file mode (path_at path p) place p c.files
executes_acts (instr.ReadLine to file place) number p c = read_acts (open_for allows_read file p) to file place p c.files
executes_acts (instr.WriteLine file operands) number p c =
    write_acts (open_for allows_write file p) (printed_line (operand_values p operands)) p c.files
executes_acts (instr.CopyRest source target) number p c =
    copy_acts source (open_for allows_read source p) (open_for allows_write target p) p c.files
executes_acts (instr.Remove path place) number p c = remove_acts (path_at path p) place p c.files
executes_acts (instr.Exists to path) number p c = test_acts to (path_at path p) p c.files
executes_acts (instr.Spawn child path arguments place) number p c =
    spawn_acts (path_at path p) (spawning_of child arguments place p) number p c
executes_acts (instr.Wait to child) number p c = wait_acts (lookup child p.children) to number p c
executes_acts other number p c = tt

next_acts : (i : Option Instr) (number : ℕ) (p : Process) (c : Core) → AllByRecursion Unasked (execute_next i number p c).acts
next_acts None number p c = tt
next_acts (Some i) number p c = executes_acts i number p c

quiet_acts : (o : Option Process) (number : ℕ) (c : Core) → AllByRecursion Unasked (local_step_of o number c).acts
quiet_acts None number c = tt
quiet_acts (Some p) number c = next_acts (slice_get p.script p.place) number p c

-- ---- the end

status_unasked : (o : Option ℕ) → AllByRecursion Unasked (status_acts o)
status_unasked None = tt
status_unasked (Some status) = (tt, tt)

end_unasked : (o : Option Process) → AllByRecursion Unasked (end_acts o)
end_unasked None = tt
end_unasked (Some p) = status_unasked p.status

pub ends_unasked : (number : ℕ) (c : Core) → AllByRecursion Unasked (ends_at number c)
ends_unasked number c = end_unasked (slice_get c.processes number)

pub quiet_unasked : (number : ℕ) (c : Core)
    → AllByRecursion Unasked ((local_step number c).acts ++ ends_at number (local_step number c).core)
quiet_unasked number c =
    let e : Effect = local_step number c in
    all_append Unasked e.acts (ends_at number e.core) (quiet_acts (slice_get c.processes number) number c) (ends_unasked number e.core)
