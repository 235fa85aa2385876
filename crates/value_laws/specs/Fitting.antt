-- Versions of the format that have the package of a world's run.
use Rattle.std.specs.Prelude.{ℕ, length, ◌==◌, Bool, true, IsTrue}
use Rattle.std.specs.List.{list_all}
use Rattle.sql_model.specs.declared.table.Table.{Table}
use Rattle.run_model.specs.declared.package.Mode.TheVariants.{Included}
use Rattle.run_model.specs.declared.package.Package.{Package}
use Rattle.run_model.specs.declared.world.World.{World}
use Rattle.run_model.specs.Package.{package_of, own_world}
use Rattle.package_codec.specs.Plain.{fits_version}
use Rattle.package_codec.specs.declared.version.Version.{Version}
use Rattle.package_codec.specs.declared.version.Version.TheVariants.{One, Two}

abbrev pub refers_to_none : Table → Bool
refers_to_none t = length t.schema.foreign == 0

-- a version has the tables of a world: version 1 has no foreign keys
abbrev pub fits_world : Version → World → Bool
fits_world One w = list_all refers_to_none w.tables
fits_world Two w = true

-- it has all of the package of the world's run
abbrev pub FittingLaw : Type 0
FittingLaw = (version : Version) (n : ℕ) (w : World) → IsTrue (fits_world version w)
    → IsTrue (fits_version version (package_of Included n w))

-- it has the tables of the own world of a package, where it has all of the package
abbrev pub OwnFittingLaw : Type 0
OwnFittingLaw = (version : Version) (p : Package) → IsTrue (fits_version version p)
    → IsTrue (fits_world version (own_world p))
