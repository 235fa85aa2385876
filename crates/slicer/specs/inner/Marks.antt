-- Files packed by sets of names.
use Rattle.std.specs.Prelude.{Bool, Option, if◌then◌else◌, Some, None, String}
use Rattle.std.specs.Option.{option_map}
use Rattle.std.specs.declared.alloc.Global.{Global}
use Rattle.std.specs.BTreeMap.{BTreeMap}
use Rattle.ldv_value.specs.declared.file.File.{File}
use Rattle.run_model.specs.declared.package.PackedFile.{PackedFile}
use Rattle.run_model.specs.Slice.{FileNeed, Whole, Present, packed_as}
use Rattle.run_model.specs.Packing.{has_name}

-- ---- files

abbrev pub need_as : Bool → Bool → Option FileNeed
need_as whole present = if whole then Some Whole else (if present then Some Present else None)

abbrev pub packed_by : BTreeMap (String Global) (Unit {0}) → BTreeMap (String Global) (Unit {0}) → File
    → Option PackedFile
packed_by whole present file =
    option_map (packed_as file) (need_as (has_name whole file.path) (has_name present file.path))
