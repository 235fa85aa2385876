-- The first script of a valid package, and packages that are read with it.
use Rattle.std.specs.Prelude.{◌≡◌, ℕ, List, [], ◌∷◌, length, find, nat_le, bytes_eq, if◌then◌else◌}
use Rattle.std.specs.Prelude.{Option, Some, None, Result, Ok, Err}
use Rattle.ldv_value.specs.Limits.{file_limit}
use Rattle.script_parse.specs.Script.{script_of}
use Rattle.script_parse.specs.declared.script.Instr.{Instr}
use Rattle.run_model.specs.Package.{own_world}
use Rattle.run_model.specs.Start.{start_script}
use Rattle.run_model.specs.declared.package.Package.{Package}
use Rattle.run_model.specs.declared.package.PackedFile.{PackedFile}
use Rattle.package_codec.specs.declared.compact_package.ParsedPackage.{ParsedPackage}
use Rattle.package_codec.specs.declared.compact_package.CompactPackage.{CompactPackage}
use Rattle.package_codec.specs.Plain.{fits_version}
use Rattle.package_codec.specs.CompactPackages.{expanded_package}
use Rattle.package_codec.specs.Runs.{are_runs}
use Rattle.package_layout.specs.Valid.{parts_rule, whole_rule}
use Rattle.package_codec.specs.declared.version.Version.{Version}

-- ---- the script of a package

-- the instructions of a whole file that is a script within the limit of files
abbrev pub script_in : Option (List ℕ) → Option (List Instr)
script_in None = None
script_in (Some bytes) = if nat_le (length bytes) file_limit then script_of bytes else None

abbrev pub file_script : Option PackedFile → Option (List Instr)
file_script None = None
file_script (Some file) = script_in file.content

-- those of the file that the first start word names
abbrev pub packed_script : List (List ℕ) → List PackedFile → Option (List Instr)
packed_script [] files = None
packed_script (word ∷ words) files = file_script (find (λ f. bytes_eq word f.path) files)

-- those of a package that meets the rules
abbrev pub ruled_script : Package → Option (List Instr)
ruled_script p =
    if parts_rule p then (if whole_rule p then packed_script p.start p.files else None) else None

-- and whose runs are those of a trace, where the version has all of it
abbrev pub valid_script : Version → CompactPackage → Option (List Instr)
valid_script version r =
    if are_runs r.runs
    then (if fits_version version (expanded_package r) then ruled_script (expanded_package r) else None)
    else None

-- ---- packages that are read with their script

-- a package that has a script
abbrev pub package_if : Option (List Instr) → CompactPackage → Option CompactPackage
package_if None r = None
package_if (Some script) r = Some r

-- what was read, without the script
abbrev pub cut_of : {E : Type 0} → Result ParsedPackage E → Result CompactPackage E
cut_of (Ok p) = Ok p.cut
cut_of (Err stop) = Err stop

-- the script beside a package is the one that its own world starts with
abbrev pub StartsWith : ParsedPackage → Type 0
StartsWith p = start_script (own_world p.cut.bare) ≡ Some p.script.instructions
