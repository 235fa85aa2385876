-- Joined packages that are read with the scripts of their two runs.
use Rattle.std.specs.Prelude.{◌≡◌, ℕ, List, bytes_eq, if◌then◌else◌, Option, Some, None, option_map}
use Rattle.std.specs.Prelude.{Result, Ok, Err}
use Rattle.script_parse.specs.declared.script.Instr.{Instr}
use Rattle.script_parse.specs.declared.script.Script.{Script}
use Rattle.run_model.specs.Start.{start_script}
use Rattle.package_codec.specs.declared.compact_package.CompactPackage.{CompactPackage}
use Rattle.package_codec.specs.declared.version.Version.TheVariants.{Two}
use Rattle.package_codec.specs.Fields.{◌>>=◌}
use Rattle.package_layout.specs.StartScript.{valid_script}
use Rattle.joined_data.specs.declared.compact_joined.CompactJoined.{CompactJoined}
use Rattle.joined_data.specs.declared.compact_joined.ParsedJoined.{ParsedJoined}
use Rattle.joined_data.specs.declared.joined.Which.{Which}
use Rattle.joined_data.specs.declared.joined.Which.TheVariants.{First, Second}
use Rattle.joined_data.specs.CompactJoins.{compact_joined_of, compact_sections, join_of_packages, picked_runs}
use Rattle.joined_data.specs.CompactJoins.{whole_join}
use Rattle.package_join.specs.Worlds.{joined_world}

-- ---- the script of a run

abbrev pub script_by : Which → Script → Script → Script
script_by First first second = first
script_by Second first second = second

-- the scripts beside a joined package are those that the worlds of its runs start with
abbrev pub StartRuns : ParsedJoined → Type 0
StartRuns p = (which : Which) → start_script (joined_world which (whole_join p.cut))
    ≡ Some (script_by which p.first p.second).instructions

-- what was read, without the scripts
abbrev pub cut_of : {E : Type 0} → Result ParsedJoined E → Result CompactJoined E
cut_of (Ok p) = Ok p.cut
cut_of (Err stop) = Err stop

-- ---- what is read

abbrev pub as_script : List Instr → Script
as_script instructions = record { instructions = instructions }

-- the script that a package starts with, where it is a valid one of version 2
abbrev pub valid_start : CompactPackage → Option Script
valid_start r = option_map as_script (valid_script Two r)

abbrev pub parsed_with : Script → Script → CompactJoined → ParsedJoined
parsed_with first second cut = record { cut = cut; first = first; second = second }

-- what two packages are joined to, with the scripts of both
abbrev pub parsed_join : CompactPackage → CompactPackage → Option ParsedJoined
parsed_join a b = do
  first ← valid_start a
  second ← valid_start b
  cut ← join_of_packages a b
  Some (parsed_with first second cut)

abbrev pub parsed_anew : CompactJoined → Option ParsedJoined
parsed_anew r = parsed_join (picked_runs First r) (picked_runs Second r)

abbrev pub if_sections_are : List ℕ → ParsedJoined → Option ParsedJoined
if_sections_are bytes p = if bytes_eq (compact_sections p.cut) bytes then Some p else None

-- the valid joined package whose sections these bytes are, with the scripts of its runs
abbrev pub parsed_joined_in : List ℕ → Option ParsedJoined
parsed_joined_in bytes = do
  r ← compact_joined_of bytes
  anew ← parsed_anew r
  if_sections_are bytes anew
