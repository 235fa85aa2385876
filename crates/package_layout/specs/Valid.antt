-- Valid packages, and how bytes are read: the valid package that they spell, or how they are damaged.
use Rattle.std.specs.Prelude.{◌≡◌, ◌≤◌, ◌-◌, ℕ, List, length, take, drop, if◌then◌else◌, Result, Ok, Err}
use Rattle.std.specs.Prelude.{Bool, true, false, ◌&&◌, nat_le, Option, Some, None, IsTrue, bytes_eq}
use Rattle.sha2.specs.Sha256.{sha256}
use Rattle.run_model.specs.declared.package.Package.{Package}
use Rattle.run_model.specs.ValidPackage.{rules}
use Rattle.package_layout.specs.declared.damage.DamageKind.{DamageKind}
use Rattle.package_layout.specs.declared.damage.DamageKind.TheVariants.{Magic, Digest, Form}
use Rattle.package_layout.specs.Counted.{IsCounted}
use Rattle.package_codec.specs.Fields.{◌>>=◌}
use Rattle.package_codec.specs.Plain.{fits_version}
use Rattle.package_codec.specs.Typed.{IsTyped}
use Rattle.package_codec.specs.declared.version.Version.{Version}
use Rattle.package_codec.specs.Version.{version_of}
use Rattle.package_layout.specs.Whole.{spelling_as, has_room, all_of}
pub use Rattle.run_model.specs.ValidPackage.{is_short_text, start_rule, content_rule, file_rule, files_rule}
pub use Rattle.run_model.specs.ValidPackage.{are_files, rows_rule, table_rule, are_tables}
pub use Rattle.run_model.specs.ValidPackage.{tables_rule}
pub use Rattle.run_model.specs.ValidPackage.{refusal_rule, reply_rule, entry_rule, is_root_process, log_rule}
pub use Rattle.run_model.specs.ValidPackage.{logs_rule}
pub use Rattle.run_model.specs.ValidPackage.{mode_rule, steps_rule, is_script, is_script_file, script_rule}
pub use Rattle.run_model.specs.ValidPackage.{trace_rule, reasons_rule, parts_rule, whole_rule, rules}

-- the format has room for it, and it meets the rules
abbrev pub valid_test : Package → Bool
valid_test p = has_room p && rules p

abbrev pub IsValidPackage : Package → Type 0
IsValidPackage p = IsTrue (valid_test p)

-- ---- bytes and the packages that they spell

-- all but the digest
abbrev pub before_digest : List ℕ → List ℕ
before_digest bytes = take (length bytes - 32) bytes

-- the last 32 bytes are the SHA-256 of those before
pub record HasDigest (bytes : List ℕ) : Type 0 where
  pub long : 40 ≤ length bytes
  pub same : drop (length bytes - 32) bytes ≡ sha256 (before_digest bytes)

-- The bytes are the spelling of a package. It has one where the format has room for it, the version has what
-- is in it, and all of its counts fit their fields.
pub record IsSpelling (version : Version) (p : Package) (bytes : List ℕ) : Type 0 where
  pub room : IsTrue (has_room p)
  pub fits : IsTrue (fits_version version p)
  pub counted : IsCounted version p
  pub same : spelling_as version p ≡ bytes

-- the bytes are the spelling of a package in the version that they begin as
abbrev pub IsSpelled : List ℕ → Package → Type 0
IsSpelled bytes p = (version : Version) × (version_of bytes ≡ Some version) × IsSpelling version p bytes

-- the bytes spell no valid package
abbrev pub IsNoSpelling : Version → List ℕ → Type 0
IsNoSpelling version bytes = (p : Package) → IsTyped p → IsValidPackage p → ¬ IsSpelling version p bytes

-- they begin as a version, and spell no valid package of it
abbrev pub IsUnspelled : List ℕ → Type 0
IsUnspelled bytes = (version : Version) × (version_of bytes ≡ Some version) × IsNoSpelling version bytes

-- the bytes between the magic and the digest
abbrev pub middle : List ℕ → List ℕ
middle bytes = drop 8 (before_digest bytes)

abbrev pub kept_if : Bool → Package → Option Package
kept_if true p = Some p
kept_if false p = None

-- the valid package whose sections these bytes are
abbrev pub package_in : Version → List ℕ → Option Package
package_in version bytes = do
  p ← all_of version bytes
  kept_if (rules p && fits_version version p) p

abbrev pub has_digest : List ℕ → Bool
has_digest bytes =
    nat_le 40 (length bytes) && bytes_eq (drop (length bytes - 32) bytes) (sha256 (before_digest bytes))

abbrev pub form_of : Option Package → Result Package DamageKind
form_of (Some p) = Ok p
form_of None = Err Form

-- the package of a version that bytes spell behind its magic, or how they are damaged
abbrev pub reading_as : Version → List ℕ → Result Package DamageKind
reading_as version bytes =
    if has_digest bytes then form_of (package_in version (middle bytes)) else Err Digest

abbrev pub reading_by : Option Version → List ℕ → Result Package DamageKind
reading_by (Some version) bytes = reading_as version bytes
reading_by None bytes = Err Magic

-- the package that bytes spell, or how they are damaged
abbrev pub reading : List ℕ → Result Package DamageKind
reading bytes = reading_by (version_of bytes) bytes
