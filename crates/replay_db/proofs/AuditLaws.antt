-- The packages that an audit finds sound.
use Rattle.std.proofs.Common.{◌≡◌, ℕ, ◌≤◌, List, [], length, refl, sym, ap, ◌∙◌, subst, true, inl, inr}
use Rattle.std.specs.List.{common_prefix_len}
use Rattle.std.specs.Prelude.{bytes_eq, nat_eq, map, Some, None, IsTrue}
use Rattle.std.specs.List.{list_all}
use Rattle.std.proofs.lemmas.Bool.{cases_Bool}
use Rattle.ldv_value.proofs.SameBytes.{bytes_eq-true, bytes_eq-itself}
use Rattle.ldv_value.proofs.Lists.{list_all-map}
use Rattle.run_model.specs.Package.{package_of, own_table, own_world}
use Rattle.run_model.specs.WorldRun.{ends_within, steps_by, events_within}
use Rattle.ldv_value.specs.Limits.{input_limit}
use Rattle.package_layout.specs.Counted.{IsCounted}
use Rattle.package_codec.specs.Plain.{has_no_foreign, has_tables}
use Rattle.package_layout.specs.Valid.{IsValidPackage}
use Rattle.package_codec.specs.declared.version.Version.{Version}
use Rattle.package_codec.specs.declared.version.Version.TheVariants.{One, Two}
use Rattle.package_layout.proofs.Package.{fit_tables}
use Rattle.package_layout.specs.Whole.{spelling_as, IsTyped}
use Rattle.replay_db.specs.Auditing.{SoundLaw, RecordedSoundLaw, OwnSoundLaw, verdict_on}
use Rattle.run_laws.specs.Laws.{SameRun}
use Rattle.replay_db.specs.Types.{Included, Package, Table, World}
use Rattle.replay_db.specs.declared.soundness.Verdict.TheVariants.{Sound, Unsound}
use Rattle.run_laws.proofs.BudgetLaw.{enough_package, enough_ends}
use Rattle.replay_db.proofs.RecordedRuns.{package_is, package_none}
use Rattle.replay_db.specs.Runs.{OwnWorldLaw, package_within}
use Rattle.replay_db.specs.Worlds.{all_of_table, ValidPackageLaw, TypedPackageLaw, WorldTablesLaw, ValidWorld}
use Rattle.replay_db.proofs.PackageValidParts.{each_table}
use Rattle.run_laws.proofs.WorldLaws.{replay_law}

same_bytes : (bytes due : List ℕ) → verdict_on bytes due ≡ Sound → bytes ≡ due
same_bytes bytes due sound = elim (cases_Bool (bytes_eq bytes due)) [
  | inl same ↦ bytes_eq-true bytes due same
  | inr other ↦
      let never : verdict_on bytes due ≡ Unsound (common_prefix_len nat_eq bytes due) = rw other refl in
      let clash : Unsound (common_prefix_len nat_eq bytes due) ≡ Sound = sym never ∙ sound in
      absurd cc
]

is_sound : (bytes due : List ℕ) → bytes ≡ due → verdict_on bytes due ≡ Sound
is_sound bytes due same = ap (verdict_on bytes) (sym same) ∙ rw (bytes_eq-itself bytes) refl

pub sound_law : SoundLaw
sound_law bytes due = (same_bytes bytes due, is_sound bytes due)

-- what is recorded of a world is the package of a run that has ended
pub own_recorded : (n : ℕ) (w : World) (p : Package) → package_within Included n w ≡ Some p
    → (ends_within n w ≡ true) × (p ≡ package_of Included n w)
own_recorded n w p is = elim (cases_Bool (ends_within n w)) [
  | inr going ↦ let never : None ≡ Some p = sym (package_none Included n w going) ∙ is in absurd cc
  | inl ended ↦ let both : Some p ≡ Some (package_of Included n w) = sym is ∙ package_is Included n w ended in (ended, cc)
]

pub recorded_sound_law : RecordedSoundLaw
recorded_sound_law n budget w script is valid ended enough =
    let own : World = own_world (package_of Included n w) in
    let same : SameRun n [] own w script = replay_law n w script is valid in
    let ended_own : ends_within n own ≡ true = same.ends ∙ ended in
    let enough_own : steps_by n [] own ≤ budget =
    subst (λ (k : ℕ). k ≤ budget) (sym (ap (λ (p : Package). p.steps) (same.packed Included))) enough in
    record {
      ends = enough_ends n own ended_own budget enough_own;
      same = enough_package n own ended_own Included budget enough_own ∙ same.packed Included;
    }

-- ---- a valid package that is due in one version

-- the tables of its own world's package have their schemas from it
own_tables : (version : Version) (budget : ℕ) (p : Package) → has_tables version p ≡ true
    → has_tables version (package_of Included budget (own_world p)) ≡ true
own_tables One budget p fits =
    let w : World = own_world p in
    let all : list_all has_no_foreign (map all_of_table w.tables) ≡ true =
    list_all-map has_no_foreign all_of_table w.tables
    ∙ list_all-map (λ (t : Table). has_no_foreign (all_of_table t)) own_table p.tables
    ∙ fits in
    each_table (events_within budget w) has_no_foreign (λ table met. met) w.tables all
own_tables Two budget p fits = refl

module _ (valid : ValidPackageLaw) (typed : TypedPackageLaw) (tables : WorldTablesLaw) (own : OwnWorldLaw)
    (counted : (version : Version) (p : Package) → length (spelling_as version p) ≤ input_limit → IsCounted version p)
    (unique : (version : Version) (p q : Package) → IsTyped p → IsTyped q → IsValidPackage p → IsValidPackage q → IsTrue (has_tables version p) → IsTrue (has_tables version q) → IsCounted version p → IsCounted version q → spelling_as version p ≡ spelling_as version q → p ≡ q) where
  pub own_sound_law : OwnSoundLaw
  own_sound_law budget version p is_typed is_valid fits bounded ended short due =
      let tables_fit : has_tables version p ≡ true = fit_tables version p fits in
      let w : World = own_world p in
      let valid_world : ValidWorld w = own p is_typed is_valid in
      let q : Package = package_of Included budget w in
      let short_q : length (spelling_as version q) ≤ input_limit = subst (λ (bytes : List ℕ). length bytes ≤ input_limit) (sym due) short in
      record {
        ends = ended;
        same = unique version q p (typed Included budget w valid_world bounded ended) is_typed
            (valid Included budget w valid_world.ruled (tables w valid_world) tt bounded ended) is_valid
            (own_tables version budget p tables_fit) tables_fit
            (counted version q short_q) (counted version p short) due;
      }
