-- The law of joined packages.
use Rattle.std.specs.Prelude.{◌≡◌, ◌≤◌, ℕ, [], length, true, Ok, None}
use Rattle.std.specs.List.{AllByRecursion}
use Rattle.ldv_value.specs.Limits.{input_limit}
use Rattle.ldv_value.specs.FileState.{files_test}
use Rattle.sql_model.specs.Tables.{tables_test}
use Rattle.package_layout.specs.Valid.{IsValidPackage}
use Rattle.run_model.specs.Between.{Between}
use Rattle.run_model.specs.Package.{package_of}
use Rattle.run_model.specs.ValidPackage.{are_files, are_tables}
use Rattle.package_join.specs.Types.{Included, Package, World}
use Rattle.joined_data.specs.declared.joined.Joined.{Joined}
use Rattle.joined_data.specs.Joined.{clash_of, joined_of, picked_package, put_together}
use Rattle.package_join.specs.Layout.{joined_spelling}
use Rattle.joined_data.specs.Rooms.{TypedCommonTable, IsTypedJoined}
use Rattle.package_join.specs.Valid.{IsValidJoined, joined_reading}
use Rattle.package_join.specs.Worlds.{joined_world, world_of}
use Rattle.run_model.specs.ValidWorld.{CanRun}
use Rattle.joined_data.specs.declared.joined.Which.{Which}

-- the packages of two runs are joined, and the worlds of both runs lie between
pub record IsJoined (n m : ℕ) (v w : World) : Type 0 where
  pub joined : joined_of (package_of Included n v) (package_of Included m w)
      ≡ Ok (put_together (package_of Included n v) (package_of Included m w))
  pub first : Between n (world_of (put_together (package_of Included n v) (package_of Included m w)).first
      (put_together (package_of Included n v) (package_of Included m w))) v
  pub second : Between m (world_of (put_together (package_of Included n v) (package_of Included m w)).second
      (put_together (package_of Included n v) (package_of Included m w))) w

-- of two worlds with the same files and tables, whatever their starts and seeds, and however far they run
abbrev pub JoinLaw : Type 0
JoinLaw = (n m : ℕ) (v w : World) → v.files ≡ w.files → v.tables ≡ w.tables
    → files_test v.files ≡ true → tables_test v.tables ≡ true
    → IsJoined n m v w

-- ---- the packages of what was joined

-- what the choice needs of a valid included package
pub record IsIncluded (p : Package) : Type 0 where
  pub mode : p.mode ≡ Included
  pub logs : p.logs ≡ []
  pub files : are_files p.files ≡ true
  pub tables : are_tables p.tables ≡ true

pub record IsPicked (a b : Package) : Type 0 where
  pub first : picked_package (put_together a b).first (put_together a b).files (put_together a b).tables ≡ a
  pub second : picked_package (put_together a b).second (put_together a b).files (put_together a b).tables ≡ b

-- two packages with no clash are picked again out of what they are joined to
abbrev pub PickLaw : Type 0
PickLaw = (a b : Package) → IsIncluded a → IsIncluded b → clash_of a b ≡ None → IsPicked a b

-- and they are joined to it anew
abbrev pub AnewLaw : Type 0
AnewLaw = (a b : Package) → IsIncluded a → IsIncluded b → (j : Joined) → joined_of a b ≡ Ok j
    → joined_of (picked_package j.first j.files j.tables) (picked_package j.second j.files j.tables) ≡ Ok j

-- what two valid included packages are joined to is valid
abbrev pub ValidLaw : Type 0
ValidLaw = (a b : Package) (j : Joined) → IsValidPackage a
    → IsValidPackage b → a.mode ≡ Included → b.mode ≡ Included
    → joined_of a b ≡ Ok j → IsValidJoined j

-- ---- bytes

-- a valid joined package whose spelling is within the limit is read from it
abbrev pub RoundTripLaw : Type 0
RoundTripLaw = (j : Joined) → IsTypedJoined j → IsValidJoined j → length (joined_spelling j) ≤ input_limit
    → joined_reading (joined_spelling j) ≡ Ok j

-- no two have one spelling
abbrev pub OneSpellingLaw : Type 0
OneSpellingLaw = (j k : Joined) → IsTypedJoined j → IsTypedJoined k → IsValidJoined j → IsValidJoined k
    → length (joined_spelling j) ≤ input_limit → joined_spelling j ≡ joined_spelling k → j ≡ k

-- ---- the world of a run can be run

abbrev pub RunsLaw : Type 0
RunsLaw = (which : Which) (j : Joined) → AllByRecursion TypedCommonTable j.tables → IsValidJoined j
    → CanRun (joined_world which j)
