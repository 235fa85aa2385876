-- The result of reading a package.
use Rattle.std.specs.Prelude.{◌≡◌, ℕ, List, Option, Some, None, Result, Ok, Err, if◌then◌else◌}
use Rattle.run_model.specs.declared.package.Package.{Package}
use Rattle.package_layout.specs.declared.damage.DamageKind.{DamageKind}
use Rattle.package_layout.specs.declared.damage.DamageKind.TheVariants.{Magic, Digest}
use Rattle.package_layout.specs.declared.layout.PackageStop.{PackageStop}
use Rattle.package_layout.specs.declared.layout.PackageStop.TheVariants.{Damaged, NoMemory}
use Rattle.package_codec.specs.declared.compact_package.CompactPackage.{CompactPackage}
use Rattle.package_codec.specs.CompactPackages.{expanded_package}
use Rattle.package_layout.specs.Valid.{has_digest}
use Rattle.package_codec.specs.declared.version.Version.{Version}
use Rattle.package_codec.specs.Version.{version_of}

-- the result is the one that is due, or memory ran out
abbrev pub ReadsAs : Result Package PackageStop → Result Package DamageKind → Type 0
ReadsAs (Ok p) due = due ≡ Ok p
ReadsAs (Err (Damaged kind)) due = due ≡ Err kind
ReadsAs (Err NoMemory) due = Unit {0}

-- the same of a package whose trace is kept as runs
abbrev pub CompactReadsAs : Result CompactPackage PackageStop → Result Package DamageKind → Type 0
CompactReadsAs (Ok r) due = due ≡ Ok (expanded_package r)
CompactReadsAs (Err (Damaged kind)) due = due ≡ Err kind
CompactReadsAs (Err NoMemory) due = Unit {0}

abbrev pub damage_by : Option Version → List ℕ → Option DamageKind
damage_by (Some version) bytes = if has_digest bytes then None else Some Digest
damage_by None bytes = Some Magic

-- the damage that is seen before anything is read
abbrev pub damage_before : List ℕ → Option DamageKind
damage_before bytes = damage_by (version_of bytes) bytes
