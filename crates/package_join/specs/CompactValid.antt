-- Valid joined packages whose traces are kept as runs, and the result of a call that reads one: no list of
-- events is made.
use Rattle.std.specs.Prelude.{◌≡◌, ℕ, List, ◌&&◌, bytes_eq, Option, Some, None}
use Rattle.std.specs.Prelude.{Result, Ok, Err, if◌then◌else◌}
use Rattle.package_layout.specs.declared.damage.DamageKind.{DamageKind}
use Rattle.package_layout.specs.declared.layout.PackageStop.{PackageStop}
use Rattle.package_layout.specs.declared.layout.PackageStop.TheVariants.{Damaged, NoMemory}
use Rattle.package_codec.specs.declared.compact_package.CompactPackage.{CompactPackage}
use Rattle.package_codec.specs.Fields.{◌>>=◌}
use Rattle.package_layout.specs.CompactReading.{compact_rules}
use Rattle.package_codec.specs.declared.version.Version.TheVariants.{Two}
use Rattle.joined_data.specs.declared.joined.Joined.{Joined}
use Rattle.joined_data.specs.declared.joined.Which.TheVariants.{First, Second}
use Rattle.joined_data.specs.declared.compact_joined.CompactJoined.{CompactJoined}
use Rattle.joined_data.specs.CompactJoins.{whole_join, compact_sections, compact_joined_of, picked_runs}
use Rattle.joined_data.specs.CompactJoins.{join_of_packages}

-- where both are valid packages of version 2
abbrev pub join_of_valid_packages : CompactPackage → CompactPackage → Option CompactJoined
join_of_valid_packages a b = if compact_rules Two a && compact_rules Two b then join_of_packages a b else None

abbrev pub compact_anew : CompactJoined → Option CompactJoined
compact_anew r = join_of_valid_packages (picked_runs First r) (picked_runs Second r)

abbrev pub compact_spelled_so : List ℕ → CompactJoined → Option CompactJoined
compact_spelled_so bytes r = if bytes_eq (compact_sections r) bytes then Some r else None

-- the valid joined package whose sections these bytes are
abbrev pub compact_joined_in : List ℕ → Option CompactJoined
compact_joined_in bytes = do
  r ← compact_joined_of bytes
  anew ← compact_anew r
  compact_spelled_so bytes anew

-- ---- what a call returns

-- the result is the one that is due, or memory ran out
abbrev pub JoinedReadsAs : Result Joined PackageStop → Result Joined DamageKind → Type 0
JoinedReadsAs (Ok j) due = due ≡ Ok j
JoinedReadsAs (Err (Damaged kind)) due = due ≡ Err kind
JoinedReadsAs (Err NoMemory) due = Unit {0}

-- the same of one whose traces are kept as runs
abbrev pub CompactJoinedReadsAs : Result CompactJoined PackageStop → Result Joined DamageKind → Type 0
CompactJoinedReadsAs (Ok r) due = due ≡ Ok (whole_join r)
CompactJoinedReadsAs (Err (Damaged kind)) due = due ≡ Err kind
CompactJoinedReadsAs (Err NoMemory) due = Unit {0}
