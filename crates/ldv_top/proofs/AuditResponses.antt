-- The result of an audit is the due one.
use Rattle.std.proofs.Common.{◌≡◌, ℕ, ◌<◌, List, length, refl, sym, ap, ◌∙◌, subst, true, false}
use Rattle.std.specs.Prelude.{Option, Some, None, Result, Ok, Err, IsSome, IsTrue, is_some}
use Rattle.ldv_value.specs.Limits.{input_limit}
use Rattle.ldv_value.proofs.Options.{same-some}
use Rattle.run_model.specs.declared.package.Package.{Package}
use Rattle.run_model.specs.declared.world.World.{World}
use Rattle.run_model.specs.Package.{own_world}
use Rattle.run_model.specs.WorldRun.{ends_within}
use Rattle.run_laws.proofs.BudgetLaw.{ended_outcome, going_outcome}
use Rattle.replay_db.specs.Auditing.{AuditsWorld, HasTables, OwnFittingLaw, fits_world, recorded_spelling}
use Rattle.replay_db.specs.declared.soundness.AuditStop.{AuditStop}
use Rattle.replay_db.specs.declared.soundness.AuditStop.TheVariants as stops
use Rattle.replay_db.specs.declared.soundness.Verdict.{Verdict}
use Rattle.package_layout.specs.Valid.{IsSpelled}
use Rattle.package_codec.specs.Version.{version_of}
use Rattle.package_codec.specs.declared.version.Version.{Version}
use Rattle.ldv_top.specs.declared.exit.Exit.TheVariants.{NotEnded, PackageTooLong}
use Rattle.ldv_top.specs.DueOfAudits.{verdict_text, verdict_due, audit_as, audit_by_version, audited_world}
use Rattle.ldv_top.specs.DueParts.{DueOutput, due_refusal, due_bytes, due_outcome}
use Rattle.ldv_top.proofs.RecordLaws.{not_too_long, too_long}

-- the version is one of the input's
module _ (budget : ℕ) (input : List ℕ) (w : World) (version : Version) (versioned : version_of input ≡ Some version) where
  abbrev due : List ℕ
  due = recorded_spelling budget version w

  audit_is : audit_as version budget input w ≡ audited_world budget input w
  audit_is = sym (ap (λ (o : Option Version). audit_by_version o budget input w) versioned)

  -- of a run that ends, it is said of the package
  ended_due : (written : DueOutput) → ends_within budget w ≡ true → ((outcome : _) → verdict_due input due outcome ≡ written)
      → written ≡ audited_world budget input w
  ended_due written ended is =
      let outcome = ended_outcome budget w ended in
      sym (ap (due_outcome budget (verdict_due input due)) outcome.1 ∙ is outcome.0) ∙ audit_is

  done_due : (verdict : Verdict) → AuditsWorld budget version w input (Ok verdict) → due_bytes (verdict_text verdict) ≡ audited_world budget input w
  done_due verdict audits =
      ended_due (due_bytes (verdict_text verdict)) audits.0
      (λ outcome. rw (not_too_long due audits.1.0) (ap (λ (v : Verdict). due_bytes (verdict_text v)) (sym audits.1.1)))

  long_due : ends_within budget w ≡ true → input_limit < length due → due_refusal PackageTooLong ≡ audited_world budget input w
  long_due ended long = ended_due (due_refusal PackageTooLong) ended (λ outcome. rw (too_long due long) refl)

  late_due : ends_within budget w ≡ false → due_refusal (NotEnded budget) ≡ audited_world budget input w
  late_due going = sym (ap (due_outcome budget (verdict_due input due)) (going_outcome budget w going)) ∙ audit_is

-- an audit that comes to something in the version of the input, which has one
abbrev pub AuditedAs : ℕ → List ℕ → World → Result Verdict AuditStop → Type 0
AuditedAs budget input w result = (version : Version) → version_of input ≡ Some version → AuditsWorld budget version w input result

some_version : (o : Option Version) → IsSome o → (version : Version) × (o ≡ Some version)
some_version None is = let never : false ≡ true = is in absurd cc
some_version (Some version) is = (version, refl)

module _ (budget : ℕ) (input : List ℕ) (w : World) (some : IsSome (version_of input)) where
  pub audit_done : (verdict : Verdict) → AuditedAs budget input w (Ok verdict) → due_bytes (verdict_text verdict) ≡ audited_world budget input w
  audit_done verdict audits =
      let found = some_version (version_of input) some in
      done_due budget input w found.0 found.1 verdict (audits found.0 found.1)

  pub audit_long : AuditedAs budget input w (Err stops.TooLong) → due_refusal PackageTooLong ≡ audited_world budget input w
  audit_long audits =
      let found = some_version (version_of input) some in
      let long = audits found.0 found.1 in
      long_due budget input w found.0 found.1 long.0 long.1

  pub audit_late : AuditedAs budget input w (Err stops.NotEnded) → due_refusal (NotEnded budget) ≡ audited_world budget input w
  audit_late audits =
      let found = some_version (version_of input) some in
      late_due budget input w found.0 found.1 (audits found.0 found.1)

-- bytes that are spelled have a version
pub is_versioned : (input : List ℕ) (p : Package) → IsSpelled input p → IsSome (version_of input)
is_versioned input p spelled = ap is_some spelled.1

-- and it has the tables of the package's own world
pub has_tables_read : OwnFittingLaw → (input : List ℕ) (p : Package) → IsSpelled input p → HasTables input (own_world p)
has_tables_read own input p spelled = λ version is.
    let same : version ≡ spelled.0 = same-some version spelled.0 (sym is ∙ spelled.1) in
    subst (λ (v : Version). IsTrue (fits_world v (own_world p))) (sym same) (own spelled.0 p spelled.2.fits)
