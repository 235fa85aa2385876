-- The packages of the runs of valid worlds, included or excluded, are valid.
use Rattle.ldv_value.specs.Limits.{max_steps}
use Rattle.std.specs.Prelude.{◌≡◌, ◌≤◌, ℕ, true, IsTrue}
use Rattle.sql_model.specs.Tables.{tables_test}
use Rattle.replay_db.specs.Types.{Mode, Included, Excluded, World}
use Rattle.run_model.specs.Package.{package_of}
use Rattle.run_model.specs.WorldRun.{ends_within}
use Rattle.package_layout.specs.Valid.{IsValidPackage}
use Rattle.package_layout.specs.Whole.{IsTyped}
pub use Rattle.run_model.specs.ValidWorld.{all_of_file, all_of_row, all_of_table, all_of_world}
pub use Rattle.run_model.specs.ValidWorld.{TypedWorld, rules_of_parts, world_rules, ValidWorld}

-- the tables of a valid world are valid, and so a database
abbrev pub WorldTablesLaw : Type 0
WorldTablesLaw = (w : World) → ValidWorld w → tables_test w.tables ≡ true

-- what a package of each mode asks of the world's numbers and texts: those of recorded replies are made of
-- them, and those of needed rows are left as they are
abbrev pub TypedFor : Mode → World → Type 0
TypedFor Included w = Unit {0}
TypedFor Excluded w = TypedWorld w

-- the package of a world that meets the rules and has valid tables, and whose run ends within a budget of
-- steps, is valid, whether it has the needed rows or the recorded replies
abbrev pub ValidPackageLaw : Type 0
ValidPackageLaw = (mode : Mode) (n : ℕ) (w : World) → IsTrue (world_rules w) → tables_test w.tables ≡ true
    → TypedFor mode w
    → n ≤ max_steps
    → ends_within n w ≡ true
    → IsValidPackage (package_of mode n w)

-- of a valid world, its numbers are those of their types and its texts are UTF-8
abbrev pub TypedPackageLaw : Type 0
TypedPackageLaw = (mode : Mode) (n : ℕ) (w : World) → ValidWorld w → n ≤ max_steps → ends_within n w ≡ true
    → IsTyped (package_of mode n w)
