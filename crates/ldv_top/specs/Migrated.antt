-- The law of `migrate`.
use Rattle.std.specs.Prelude.{◌≡◌, ◌↔◌, ◌≤◌, ℕ, List, Some, Ok, codes}
use Rattle.ldv_value.specs.Limits.{max_steps}
use Rattle.run_model.specs.declared.package.Package.{Package}
use Rattle.package_layout.specs.Valid.{reading}
use Rattle.package_codec.specs.Version.{version_of}
use Rattle.package_codec.specs.declared.version.Version.TheVariants.{Two}
use Rattle.ldv_top.specs.declared.command.Report.{Report}
use Rattle.ldv_top.specs.Due.{due_replay}
use Rattle.ldv_top.specs.DueOfAudits.{due_audit}
use Rattle.ldv_top.specs.DueOfMigrations.{due_migrate}
use Rattle.ldv_top.specs.DueOfReports.{due_inspect}
use Rattle.ldv_top.specs.DueOfTables.{due_table}
use Rattle.ldv_top.specs.DueParts.{due_bytes}

-- the audit within a budget of steps finds the package sound
abbrev pub FindsSound : ℕ → List ℕ → Type 0
FindsSound budget input = due_audit budget input ≡ due_bytes (codes "sound\n")

-- The bytes are of the second version, and are read as the same package. So each report, replay and table of
-- the two is the same, and both are found sound or neither. What is migrated once more stays as it is.
pub record IsMigration (input bytes : List ℕ) : Type 0 where
  pub «package» : Package
  pub is_package : reading input ≡ Ok «package»
  pub read_back : reading bytes ≡ Ok «package»
  pub version : version_of bytes ≡ Some Two
  pub again : due_migrate bytes ≡ due_bytes bytes
  pub replayed : (budget : ℕ) → due_replay budget bytes ≡ due_replay budget input
  pub tabled : (name : List ℕ) (step budget : ℕ)
      → due_table name step budget bytes ≡ due_table name step budget input
  pub reported : (report : Report) → due_inspect report bytes ≡ due_inspect report input
  pub audited : (budget : ℕ) → budget ≤ max_steps → FindsSound budget bytes ↔ FindsSound budget input
