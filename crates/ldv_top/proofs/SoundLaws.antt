-- When the audit of bytes finds them sound.
use Rattle.std.proofs.Common.{◌≡◌, ℕ, ◌≤◌, List, length, refl, sym, ap, ◌∙◌, subst, true, inl, inr}
use Rattle.std.specs.Prelude.{Option, Some, Ok, codes, slice_get}
use Rattle.std.proofs.lemmas.Bool.{cases_Bool}
use Rattle.ldv_value.proofs.Cases.{cases-option}
use Rattle.ldv_value.specs.Limits.{input_limit}
use Rattle.run_model.specs.declared.outcome.Outcome.{Outcome}
use Rattle.run_model.specs.declared.package.Mode.{Mode}
use Rattle.run_model.specs.declared.package.Mode.TheVariants.{Included}
use Rattle.run_model.specs.declared.package.Package.{Package}
use Rattle.run_model.specs.declared.world.World.{World}
use Rattle.run_model.specs.Package.{own_world}
use Rattle.run_model.specs.WorldRun.{ends_within, outcome_within}
use Rattle.package_layout.specs.Valid.{reading}
use Rattle.package_codec.specs.Version.{version_of}
use Rattle.package_codec.specs.declared.version.Version.{Version}
use Rattle.package_codec.specs.declared.version.Version.TheVariants.{One, Two}
use Rattle.package_layout.specs.Whole.{spelling_as}
use Rattle.run_laws.proofs.BudgetLaw.{outcome_ends, ended_outcome}
use Rattle.replay_db.specs.Auditing.{SoundLaw, verdict_on, own_spelling}
use Rattle.replay_db.specs.declared.soundness.Verdict.{Verdict}
use Rattle.replay_db.specs.declared.soundness.Verdict.TheVariants.{Sound, Unsound}
use Rattle.ldv_top.specs.declared.exit.Exit.TheVariants.{Done, NotEnded, PackageTooLong}
use Rattle.ldv_top.specs.DueOfAudits.{verdict_text, verdict_due, audit_as, audit_by_version, audit_by_mode, audited_package, due_audit}
use Rattle.ldv_top.specs.DueParts.{DueOutput, due_refusal, due_bytes, due_outcome, due_of_run, due_of_reading, is_too_long}
use Rattle.ldv_top.specs.Migrated.{FindsSound}
use Rattle.ldv_top.proofs.RecordLaws.{not_too_long}

-- ---- runs that are written

-- what is written of a run is that of its outcome
pub record Written (n : ℕ) (w : World) (written : Outcome → DueOutput) : Type 0 where
  pub outcome : Outcome
  pub comes : outcome_within n w ≡ Some outcome
  pub due : due_of_run n w written ≡ written outcome
  pub finished : (written outcome).exit ≡ Done

pub run_written : (n : ℕ) (w : World) (written : Outcome → DueOutput) → (due_of_run n w written).exit ≡ Done → Written n w written
run_written n w written finished = elim (cases-option (outcome_within n w)) [
  | inl none ↦
      let never : NotEnded n ≡ Done = ap (λ (d : DueOutput). d.exit) (sym (ap (due_outcome n written) none)) ∙ finished in
      cc
  | inr some ↦
      let due : due_of_run n w written ≡ written some.0 = ap (due_outcome n written) some.1 in
      record {
        outcome = some.0;
        comes = some.1;
        due = due;
        finished = ap (λ (d : DueOutput). d.exit) (sym due) ∙ finished;
      }
]

-- ---- the version of a spelling

pub version_spelled : (version : Version) (p : Package) → version_of (spelling_as version p) ≡ Some version
version_spelled One p = refl
version_spelled Two p = refl

-- ---- of bytes that are read as a package with the needed rows

module _ (budget : ℕ) (version : Version) (bytes : List ℕ) (p : Package) (short : length bytes ≤ input_limit) (read : reading bytes ≡ Ok p)
    (included : p.mode ≡ Included) (versioned : version_of bytes ≡ Some version) where
  abbrev due : List ℕ
  due = own_spelling budget version p

  audit_is : due_audit budget bytes ≡ audit_as version budget bytes (own_world p)
  audit_is =
      rw (not_too_long bytes short)
      (ap (due_of_reading (audited_package budget bytes)) read
      ∙ ap (λ (mode : Mode). audit_by_mode mode budget bytes p) included
      ∙ ap (λ (o : Option Version). audit_by_version o budget bytes (own_world p)) versioned)

  pub sound_from : SoundLaw → ends_within budget (own_world p) ≡ true → bytes ≡ due → FindsSound budget bytes
  sound_from sound ended same =
      let outcome = ended_outcome budget (own_world p) ended in
      let verdict : verdict_on bytes due ≡ Sound = (sound bytes due).1 same in
      let within : length due ≤ input_limit = subst (λ (l : List ℕ). length l ≤ input_limit) same short in
      audit_is
      ∙ ap (due_outcome budget (verdict_due bytes due)) outcome.1
      ∙ rw (not_too_long due within) (ap (λ (v : Verdict). due_bytes (verdict_text v)) verdict)

  -- `sound` and `unsound` begin with different letters
  text_sound : (v : Verdict) → verdict_text v ≡ codes "sound\n" → v ≡ Sound
  text_sound Sound is = refl
  text_sound (Unsound at) is = let first : Some 117 ≡ Some 115 = ap (λ (text : List ℕ). slice_get text 0) is in cc

  verdict_sound : SoundLaw → (outcome : Outcome) → verdict_due bytes due outcome ≡ due_bytes (codes "sound\n") → bytes ≡ due
  verdict_sound sound outcome is = elim (cases_Bool (is_too_long due)) [
    | inl long ↦
        let refusal : due_refusal PackageTooLong ≡ due_bytes (codes "sound\n") = rw long at is in
        let never : PackageTooLong ≡ Done = ap (λ (d : DueOutput). d.exit) refusal in
        cc
    | inr within ↦
        let judged : due_bytes (verdict_text (verdict_on bytes due)) ≡ due_bytes (codes "sound\n") = rw within at is in
        let text : verdict_text (verdict_on bytes due) ≡ codes "sound\n" = ap (λ (d : DueOutput). d.bytes) judged in
        (sound bytes due).0 (text_sound (verdict_on bytes due) text)
  ]

  pub sound_is : SoundLaw → FindsSound budget bytes → (ends_within budget (own_world p) ≡ true) × (bytes ≡ due)
  sound_is sound finds =
      let run : due_of_run budget (own_world p) (verdict_due bytes due) ≡ due_bytes (codes "sound\n") = sym audit_is ∙ finds in
      let ran : Written budget (own_world p) (verdict_due bytes due) = run_written budget (own_world p) (verdict_due bytes due) (ap (λ (d : DueOutput). d.exit) run) in
      (outcome_ends budget (own_world p) ran.outcome ran.comes, verdict_sound sound ran.outcome (sym ran.due ∙ run))
