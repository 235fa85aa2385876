-- Migrating gives the same package.
use Rattle.std.proofs.Common.{◌≡◌, ℕ, ◌≤◌, List, length, refl, sym, ap, ◌∙◌, subst}
use Rattle.std.specs.Prelude.{Some, Ok, IsTrue}
use Rattle.ldv_value.specs.Limits.{input_limit, max_steps}
use Rattle.run_model.specs.declared.package.Mode.{Mode}
use Rattle.run_model.specs.declared.package.Mode.TheVariants.{Included, Excluded}
use Rattle.run_model.specs.declared.package.Package.{Package}
use Rattle.package_layout.specs.Counted.{IsCounted}
use Rattle.package_codec.specs.Plain.{fits_version}
use Rattle.package_layout.specs.Valid.{IsValidPackage, IsSpelled, reading}
use Rattle.package_codec.specs.Version.{version_of}
use Rattle.package_codec.specs.declared.version.Version.{Version}
use Rattle.package_codec.specs.declared.version.Version.TheVariants.{Two}
use Rattle.package_layout.specs.Whole.{spelling_as, spelling, IsTyped}
use Rattle.replay_db.specs.Auditing.{SoundLaw, OwnSoundLaw, IsOwn}
use Rattle.ldv_top.specs.declared.exit.Exit.TheVariants.{Done, NoSuch}
use Rattle.ldv_top.specs.Due.{DueOutput, due_bytes, replayed_package, due_spelling}
use Rattle.ldv_top.specs.DueOfAudits.{audit_by_mode, audited_package, due_audit}
use Rattle.ldv_top.specs.DueOfMigrations.{migrated_package, due_migrate}
use Rattle.ldv_top.specs.DueOfReports.{report_due}
use Rattle.ldv_top.specs.DueOfTables.{tabled_package}
use Rattle.ldv_top.specs.DueParts.{due_refusal, due_of_reading, due_of_package}
use Rattle.ldv_top.specs.Migrated.{FindsSound, IsMigration}
use Rattle.ldv_top.proofs.RecordLaws.{not_too_long, Spelled, spelling_done, spelled_whole}
use Rattle.ldv_top.proofs.SoundLaws.{version_spelled, sound_from, sound_is}

-- ---- what is due of two inputs that are read as one package

-- an input of a version that is read as a package
record ReadsVersion (version : Version) (p : Package) (bytes : List ℕ) : Type 0 where
  short : length bytes ≤ input_limit
  read : reading bytes ≡ Ok p
  spelled : bytes ≡ spelling_as version p
  versioned : version_of bytes ≡ Some version
  fits : IsTrue (fits_version version p)

module _ (p : Package) where
  package_due : (due : Package → DueOutput) (version : Version) (bytes : List ℕ) → ReadsVersion version p bytes → due_of_package due bytes ≡ due p
  package_due due version bytes is = rw (not_too_long bytes is.short) (ap (due_of_reading due) is.read)

  -- what is found sound in one version is so in the other
  sound_too : SoundLaw → OwnSoundLaw → IsTyped p → IsValidPackage p → p.mode ≡ Included → (budget : ℕ) → budget ≤ max_steps
      → (v w : Version) (a b : List ℕ) → ReadsVersion v p a → ReadsVersion w p b → FindsSound budget a → FindsSound budget b
  sound_too sound own typed valid included budget bounded v w a b one other finds =
      let found = sound_is budget v a p one.short one.read included one.versioned sound finds in
      let within : length (spelling_as v p) ≤ input_limit = subst (λ (l : List ℕ). length l ≤ input_limit) one.spelled one.short in
      let is : IsOwn budget p = own budget v p typed valid one.fits bounded found.0 within (sym found.1 ∙ one.spelled) in
      sound_from budget w b p other.short other.read included other.versioned sound is.ends
      (other.spelled ∙ sym (ap (spelling_as w) is.same))

  -- one with the recorded replies is never found sound
  not_sound : p.mode ≡ Excluded → (budget : ℕ) (version : Version) (bytes : List ℕ) → ReadsVersion version p bytes → ¬ FindsSound budget bytes
  not_sound excluded budget version bytes is finds =
      let due : due_audit budget bytes ≡ due_refusal NoSuch =
      package_due (audited_package budget bytes) version bytes is ∙ ap (λ (mode : Mode). audit_by_mode mode budget bytes p) excluded in
      let never : NoSuch ≡ Done = ap (λ (d : DueOutput). d.exit) (sym due ∙ finds) in
      absurd cc

  sound_by : SoundLaw → OwnSoundLaw → IsTyped p → IsValidPackage p → (mode : Mode) → p.mode ≡ mode → (budget : ℕ) → budget ≤ max_steps
      → (v w : Version) (a b : List ℕ) → ReadsVersion v p a → ReadsVersion w p b → FindsSound budget a → FindsSound budget b
  sound_by sound own typed valid Included is budget bounded v w a b one other finds = sound_too sound own typed valid is budget bounded v w a b one other finds
  sound_by sound own typed valid Excluded is budget bounded v w a b one other finds = absurd (not_sound is budget v a one finds)

-- ---- what is migrated

module _ (again : (version : Version) (p : Package) → IsTyped p → IsValidPackage p → IsTrue (fits_version version p) → IsCounted version p → reading (spelling_as version p) ≡ Ok p)
    (counted : (version : Version) (p : Package) → length (spelling_as version p) ≤ input_limit → IsCounted version p)
    (sound : SoundLaw) (own : OwnSoundLaw) where
  pub migrated_law : (input : List ℕ) (p : Package) → length input ≤ input_limit → IsTyped p → IsValidPackage p → IsSpelled input p
      → reading input ≡ Ok p → (due_migrate input).exit ≡ Done → IsMigration input (due_migrate input).bytes
  migrated_law input p short typed valid is_spelled read finished =
      let version : Version = is_spelled.0 in
      let first : ReadsVersion version p input = record { short = short; read = read; spelled = sym is_spelled.2.same; versioned = is_spelled.1; fits = is_spelled.2.fits } in
      let due : due_migrate input ≡ due_spelling (spelling p) = package_due p migrated_package version input first in
      let spelled : Spelled (due_spelling (spelling p)) (spelling p) = spelling_done (spelling p) (sym (ap (λ (d : DueOutput). d.exit) due) ∙ finished) in
      let bytes : List ℕ = (due_migrate input).bytes in
      let same : bytes ≡ spelling p = ap (λ (d : DueOutput). d.bytes) due ∙ spelled.1 in
      let second : ReadsVersion Two p bytes = subst (ReadsVersion Two p) (sym same) (record {
        short = spelled.0;
        read = again Two p typed valid refl (counted Two p spelled.0);
        spelled = refl;
        versioned = version_spelled Two p;
        fits = refl;
      }) in
      record {
        «package» = p;
        is_package = read;
        read_back = second.read;
        version = second.versioned;
        again = package_due p migrated_package Two bytes second ∙ spelled_whole (spelling p) spelled.0 ∙ ap due_bytes (sym same);
        replayed = λ budget. package_due p (replayed_package budget) Two bytes second ∙ sym (package_due p (replayed_package budget) version input first);
        tabled = λ name step budget.
            package_due p (tabled_package name step budget) Two bytes second
            ∙ sym (package_due p (tabled_package name step budget) version input first);
        reported = λ report.
            package_due p (report_due report) Two bytes second ∙ sym (package_due p (report_due report) version input first);
        audited = λ budget bounded. (
          sound_by p sound own typed valid p.mode refl budget bounded Two version bytes input second first,
          sound_by p sound own typed valid p.mode refl budget bounded version Two input bytes first second,
        );
      }
