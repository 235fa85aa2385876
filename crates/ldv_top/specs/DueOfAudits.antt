-- The due output of `audit`: whether the input is the included package of its own world's run, in its own
-- version.
use Rattle.std.specs.Prelude.{ℕ, List, ◌++◌, codes, if◌then◌else◌, Option, Some, None}
use Rattle.std.specs.Fmt.{decimal}
use Rattle.run_model.specs.declared.outcome.Outcome.{Outcome}
use Rattle.run_model.specs.declared.package.Mode.{Mode}
use Rattle.run_model.specs.declared.package.Mode.TheVariants.{Included, Excluded}
use Rattle.run_model.specs.declared.package.Package.{Package}
use Rattle.run_model.specs.declared.world.World.{World}
use Rattle.run_model.specs.OutcomeText.{line}
use Rattle.run_model.specs.Package.{own_world}
use Rattle.package_codec.specs.Version.{version_of}
use Rattle.package_codec.specs.declared.version.Version.{Version}
use Rattle.package_layout.specs.declared.damage.DamageKind.TheVariants.{Magic}
use Rattle.replay_db.specs.Auditing.{verdict_on, recorded_spelling}
use Rattle.replay_db.specs.declared.soundness.Verdict.{Verdict}
use Rattle.replay_db.specs.declared.soundness.Verdict.TheVariants.{Sound, Unsound}
use Rattle.ldv_top.specs.declared.exit.Exit.TheVariants.{Damaged, NoSuch, PackageTooLong}
use Rattle.ldv_top.specs.DueParts.{DueOutput, due_refusal, due_bytes, due_of_run, due_of_package, is_too_long}

-- `sound`, or `unsound` and the first place at which the bytes differ
abbrev pub verdict_text : Verdict → List ℕ
verdict_text Sound = line (codes "sound")
verdict_text (Unsound at) = line (codes "unsound " ++ decimal at)

-- the run of the package's own world has to end, and then its package has to be short enough
abbrev pub verdict_due : List ℕ → List ℕ → Outcome → DueOutput
verdict_due input due outcome =
    if is_too_long due then due_refusal PackageTooLong else due_bytes (verdict_text (verdict_on input due))

abbrev pub audit_as : Version → ℕ → List ℕ → World → DueOutput
audit_as version budget input w = due_of_run budget w (verdict_due input (recorded_spelling budget version w))

-- what has no version isn't a package
abbrev pub audit_by_version : Option Version → ℕ → List ℕ → World → DueOutput
audit_by_version (Some version) budget input w = audit_as version budget input w
audit_by_version None budget input w = due_refusal (Damaged Magic)

abbrev pub audited_world : ℕ → List ℕ → World → DueOutput
audited_world budget input w = audit_by_version (version_of input) budget input w

abbrev pub audit_by_mode : Mode → ℕ → List ℕ → Package → DueOutput
audit_by_mode Included budget input p = audited_world budget input (own_world p)
audit_by_mode Excluded budget input p = due_refusal NoSuch

abbrev pub audited_package : ℕ → List ℕ → Package → DueOutput
audited_package budget input p = audit_by_mode p.mode budget input p

abbrev pub due_audit : ℕ → List ℕ → DueOutput
due_audit budget input = due_of_package (audited_package budget input) input
