-- The first script of a package, by its own files.
use Rattle.std.specs.Prelude.{List, find, bytes_eq, slice_get, Option, option_and_then}
use Rattle.script_parse.specs.Script.{script_of}
use Rattle.run_model.specs.Package.{or_empty}
use Rattle.run_model.specs.declared.package.PackedFile.{PackedFile}
use Rattle.replay_log.specs.Types.{Instr, Package}

-- the file that the first start word names
abbrev pub packed_start : Package → Option PackedFile
packed_start p = option_and_then (λ word. find (λ f. bytes_eq word f.path) p.files) (slice_get p.start 0)

-- the instructions of a file, which is empty where it is a present one
abbrev pub script_in : Option PackedFile → Option (List Instr)
script_in file = option_and_then (λ (file : PackedFile). script_of (or_empty file.content)) file
