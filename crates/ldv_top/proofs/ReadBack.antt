-- The spelling of the package of a valid world's run is read back as that package, in each version.
use Rattle.std.proofs.Common.{◌≡◌, ℕ, ◌≤◌, length, true}
use Rattle.std.specs.Prelude.{Ok, IsTrue}
use Rattle.ldv_value.specs.Limits.{input_limit, max_steps}
use Rattle.run_model.specs.declared.package.Mode.{Mode}
use Rattle.run_model.specs.declared.package.Mode.TheVariants.{Included, Excluded}
use Rattle.run_model.specs.declared.package.Package.{Package}
use Rattle.run_model.specs.declared.world.World.{World}
use Rattle.run_model.specs.Package.{package_of}
use Rattle.run_model.specs.WorldRun.{ends_within}
use Rattle.package_codec.specs.Plain.{fits_version}
use Rattle.package_layout.specs.Valid.{IsValidPackage, reading}
use Rattle.package_layout.specs.Counted.{IsCounted}
use Rattle.package_codec.specs.declared.version.Version.{Version}
use Rattle.package_layout.specs.Whole.{spelling_as, IsTyped}
use Rattle.replay_db.specs.Worlds.{TypedFor, TypedWorld, ValidWorld, WorldTablesLaw, ValidPackageLaw, TypedPackageLaw}

-- whatever a package of this mode asks of a world's values
typed_for : (mode : Mode) (w : World) → TypedWorld w → TypedFor mode w
typed_for Included w typed = tt
typed_for Excluded w typed = typed

-- a package that is spelled is read as itself, and one with a short spelling is counted
abbrev pub ReadAgain : Type 0
ReadAgain = (version : Version) (p : Package) → IsTyped p → IsValidPackage p → IsTrue (fits_version version p) → IsCounted version p → reading (spelling_as version p) ≡ Ok p

abbrev pub ShortCounted : Type 0
ShortCounted = (version : Version) (p : Package) → length (spelling_as version p) ≤ input_limit → IsCounted version p

module _ (again : ReadAgain) (counted : ShortCounted) (valid : ValidPackageLaw) (typed : TypedPackageLaw) (valid_tables : WorldTablesLaw) where
  pub read_back : (mode : Mode) (n : ℕ) (w : World) → ValidWorld w → n ≤ max_steps → ends_within n w ≡ true
      → (version : Version) → IsTrue (fits_version version (package_of mode n w))
      → length (spelling_as version (package_of mode n w)) ≤ input_limit
      → reading (spelling_as version (package_of mode n w)) ≡ Ok (package_of mode n w)
  read_back mode n w valid_world bounded ended version fits short =
      again version (package_of mode n w) (typed mode n w valid_world bounded ended)
      (valid mode n w valid_world.ruled (valid_tables w valid_world) (typed_for mode w valid_world.typed) bounded ended)
      fits (counted version (package_of mode n w) short)
