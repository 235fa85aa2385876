-- The script that a world starts with, and the state in which its run starts.
use Rattle.std.specs.Prelude.{◌≡◌, List, length, Bool, nat_le, Option, Some, option_and_then, slice_get}
use Rattle.std.specs.List.{list_all}
use Rattle.ldv_value.specs.FileState.{file_at}
use Rattle.ldv_value.specs.Limits.{file_limit}
use Rattle.script_parse.specs.Script.{script_of}
use Rattle.run_model.specs.Types.{File, Instr, World}
use Rattle.run_model.specs.declared.world.ParsedWorld.{ParsedWorld}
use Rattle.run_model.specs.Core.{start_core}
use Rattle.run_model.specs.SqlDatabase.{SqlDatabase, initial_database}
use Rattle.run_model.specs.State.{State}

-- the file that the first start word names
abbrev pub start_file : World → Option File
start_file w = option_and_then (λ word. file_at word w.files) (slice_get w.start 0)

-- the instructions of that file
abbrev pub start_script : World → Option (List Instr)
start_script w = option_and_then (λ file. script_of file.content) (start_file w)

-- the script beside a world is the one that it starts with
abbrev pub IsParsed : ParsedWorld → Type 0
IsParsed p = start_script p.world ≡ Some p.script.instructions

-- each file is within its limit
abbrev pub has_small_files : World → Bool
has_small_files w = list_all (λ file. nat_le (length file.content) file_limit) w.files

-- over the world's tables
abbrev pub start_state : World → List Instr → State SqlDatabase
start_state w script = record {
  core = start_core w.start w.seed w.files script;
  db = initial_database w.tables;
}
