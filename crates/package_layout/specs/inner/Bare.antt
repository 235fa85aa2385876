-- Facts about every package in memory, without its trace.
use Rattle.std.specs.Prelude.{◌<◌, ◌^◌}
use Rattle.std.specs.List.{AllByRecursion}
use Rattle.std.specs.Str.{IsUtf8}
use Rattle.run_model.specs.declared.package.Package.{Package}
use Rattle.package_codec.specs.Typed.{IsU32, TypedFile, TypedTable, TypedLog}

abbrev pub BareParts : Package → Type 0
BareParts p =
    AllByRecursion TypedFile p.files × (AllByRecursion TypedTable p.tables × AllByRecursion TypedLog p.logs)

abbrev pub BareNumbers : Package → Type 0
BareNumbers p = (p.seed < 2 ^ 64) × (IsU32 p.steps × BareParts p)

abbrev pub IsTypedBare : Package → Type 0
IsTypedBare p = AllByRecursion IsUtf8 p.start × BareNumbers p
