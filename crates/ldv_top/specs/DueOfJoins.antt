-- The due output of `join`: the joined package of two included packages.
use Rattle.std.specs.Prelude.{◌≡◌, ℕ, List, length, ◌==◌, if◌then◌else◌, Option, Some, None, Result, Ok, Err}
use Rattle.run_model.specs.declared.package.Mode.{Mode}
use Rattle.run_model.specs.declared.package.Mode.TheVariants.{Included, Excluded}
use Rattle.run_model.specs.declared.package.Package.{Package}
use Rattle.joined_data.specs.declared.joined.Clash.{Clash as TheClash}
use Rattle.joined_data.specs.declared.joined.Joined.{Joined}
use Rattle.joined_data.specs.Joined.{joined_of}
use Rattle.package_join.specs.Layout.{joined_spelling}
use Rattle.package_layout.specs.declared.damage.DamageKind.{DamageKind}
use Rattle.package_layout.specs.declared.damage.DamageKind.TheVariants.{Form}
use Rattle.package_layout.specs.declared.layout.PackageStop.{PackageStop}
use Rattle.package_layout.specs.declared.layout.PackageStop.TheVariants as package_stops
use Rattle.package_codec.specs.declared.compact_package.CompactPackage.{CompactPackage}
use Rattle.package_codec.specs.Fields.{◌>>=◌, both_at, sized_at}
use Rattle.package_codec.specs.CompactPackages.{expanded_package}
use Rattle.package_layout.specs.Valid.{reading}
use Rattle.ldv_top.specs.declared.exit.Exit.TheVariants.{TooLong, Damaged, NoSuch, Clash}
use Rattle.ldv_top.specs.DueParts.{DueOutput, due_refusal, due_spelling, is_too_long}

-- ---- the input: each package with its length before it, and nothing after the second

abbrev pub pair_in : List ℕ → Option (List ℕ × List ℕ)
pair_in input = do
  pair ← both_at sized_at sized_at input
  if length pair.1 == 0 then Some pair.0 else None

-- the first is judged before the second
abbrev pub both_read : Result Package DamageKind → Result Package DamageKind
    → Result (Package × Package) DamageKind
both_read (Ok a) (Ok b) = Ok (a, b)
both_read (Ok a) (Err kind) = Err kind
both_read (Err kind) second = Err kind

abbrev pub pair_reading : Option (List ℕ × List ℕ) → Result (Package × Package) DamageKind
pair_reading (Some pair) = both_read (reading pair.0) (reading pair.1)
pair_reading None = Err Form

-- the result is the pair that is due, its traces kept as runs, or memory ran out
abbrev pub PairReadsAs : Result (CompactPackage × CompactPackage) PackageStop
    → Result (Package × Package) DamageKind → Type 0
PairReadsAs (Ok pair) due = due ≡ Ok (expanded_package pair.0, expanded_package pair.1)
PairReadsAs (Err (package_stops.Damaged kind)) due = due ≡ Err kind
PairReadsAs (Err package_stops.NoMemory) due = Unit {0}

-- ---- what two packages are joined to

abbrev pub due_join_bytes : Result Joined TheClash → DueOutput
due_join_bytes (Ok j) = due_spelling (joined_spelling j)
due_join_bytes (Err clash) = due_refusal (Clash clash)

-- both have to be included
abbrev pub joined_modes : Mode → Mode → Package → Package → DueOutput
joined_modes Included Included a b = due_join_bytes (joined_of a b)
joined_modes Included Excluded a b = due_refusal NoSuch
joined_modes Excluded other a b = due_refusal NoSuch

abbrev pub joined_packages : Package → Package → DueOutput
joined_packages a b = joined_modes a.mode b.mode a b

abbrev pub due_of_pair : Result (Package × Package) DamageKind → DueOutput
due_of_pair (Ok pair) = joined_packages pair.0 pair.1
due_of_pair (Err kind) = due_refusal (Damaged kind)

abbrev pub due_join : List ℕ → DueOutput
due_join input =
    if is_too_long input then due_refusal TooLong else due_of_pair (pair_reading (pair_in input))
