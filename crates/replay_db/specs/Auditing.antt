-- The audit of a package: its bytes, compared with the included package of its own world, in their own
-- version.
use Rattle.std.specs.Prelude.{◌≡◌, ◌≤◌, ◌<◌, ◌↔◌, ℕ, List, [], length, true, false, if◌then◌else◌, nat_eq, bytes_eq}
use Rattle.std.specs.Prelude.{Some, Result, Ok, Err, IsTrue}
use Rattle.std.specs.List.{common_prefix_len}
use Rattle.ldv_value.specs.Limits.{input_limit, max_steps}
use Rattle.script_parse.specs.declared.script.Instr.{Instr}
use Rattle.sql_model.specs.Tables.{tables_test}
use Rattle.run_model.specs.Package.{package_of, own_world}
use Rattle.run_model.specs.Start.{start_script}
use Rattle.run_model.specs.WorldRun.{ends_within, steps_by}
use Rattle.package_codec.specs.Plain.{fits_version}
use Rattle.package_codec.specs.Version.{version_of}
use Rattle.package_layout.specs.Valid.{IsValidPackage}
use Rattle.package_codec.specs.declared.version.Version.{Version}
use Rattle.package_layout.specs.Whole.{spelling_as, IsTyped}
use Rattle.replay_db.specs.Types.{Included, Package, World}
use Rattle.replay_db.specs.declared.soundness.Verdict.{Verdict}
use Rattle.replay_db.specs.declared.soundness.Verdict.TheVariants.{Sound, Unsound}
use Rattle.replay_db.specs.declared.soundness.AuditStop.{AuditStop}
use Rattle.replay_db.specs.declared.soundness.AuditStop.TheVariants.{NotEnded, TooLong, NoMemory}
pub use Rattle.value_laws.specs.Fitting.{fits_world, OwnFittingLaw}

-- ---- the verdict

-- Of bytes, and the bytes that are due: the first place at which they differ, from 0. Where one list is the
-- start of the other, that is the length of the shorter.
abbrev pub verdict_on : List ℕ → List ℕ → Verdict
verdict_on bytes due = if bytes_eq bytes due then Sound else Unsound (common_prefix_len nat_eq bytes due)

-- the package of a world's run, within a budget of steps, in a version
abbrev pub recorded_spelling : ℕ → Version → World → List ℕ
recorded_spelling budget version w = spelling_as version (package_of Included budget w)

-- what is due of a package in a version: that of its own world
abbrev pub own_spelling : ℕ → Version → Package → List ℕ
own_spelling budget version p = recorded_spelling budget version (own_world p)

-- the version that bytes begin as has the tables of a world, as it has those of the package that they spell
abbrev pub HasTables : List ℕ → World → Type 0
HasTables bytes w = (version : Version) → version_of bytes ≡ Some version → IsTrue (fits_world version w)

-- ---- what an audit comes to

abbrev pub AuditStops : ℕ → Version → World → AuditStop → Type 0
AuditStops budget version w NotEnded = ends_within budget w ≡ false
AuditStops budget version w TooLong =
    (ends_within budget w ≡ true) × (input_limit < length (recorded_spelling budget version w))
AuditStops budget version w NoMemory = Unit {0}

-- of bytes of a version, by the world of the package that they are
abbrev pub AuditsWorld : ℕ → Version → World → List ℕ → Result Verdict AuditStop → Type 0
AuditsWorld budget version w bytes (Ok verdict) =
    (ends_within budget w ≡ true)
    × ((length (recorded_spelling budget version w) ≤ input_limit)
    × (verdict ≡ verdict_on bytes (recorded_spelling budget version w)))
AuditsWorld budget version w bytes (Err stop) = AuditStops budget version w stop

-- and by the package
abbrev pub Audits : ℕ → Version → Package → List ℕ → Result Verdict AuditStop → Type 0
Audits budget version p bytes result = AuditsWorld budget version (own_world p) bytes result

-- ---- laws

-- sound are the bytes that are due, and no others
abbrev pub SoundLaw : Type 0
SoundLaw = (bytes due : List ℕ) → (verdict_on bytes due ≡ Sound) ↔ (bytes ≡ due)

-- The run of a package's own world ends within a budget of steps, and the package is that of this run. So its
-- spelling is the one that is due, in each version.
pub record IsOwn (budget : ℕ) (p : Package) : Type 0 where
  pub ends : ends_within budget (own_world p) ≡ true
  pub same : package_of Included budget (own_world p) ≡ p

-- so is the package of every run, within every budget of at least its steps
abbrev pub RecordedSoundLaw : Type 0
RecordedSoundLaw = (n budget : ℕ) (w : World) (script : List Instr) → start_script w ≡ Some script
    → tables_test w.tables ≡ true
    → ends_within n w ≡ true
    → steps_by n [] w ≤ budget
    → IsOwn budget (package_of Included n w)

-- And no other: a valid package whose spelling in one version is due is that of its own world's run. So its
-- spelling in the other version is due too.
abbrev pub OwnSoundLaw : Type 0
OwnSoundLaw = (budget : ℕ) (version : Version) (p : Package) → IsTyped p → IsValidPackage p
    → IsTrue (fits_version version p)
    → budget ≤ max_steps
    → ends_within budget (own_world p) ≡ true
    → length (spelling_as version p) ≤ input_limit
    → own_spelling budget version p ≡ spelling_as version p
    → IsOwn budget p
