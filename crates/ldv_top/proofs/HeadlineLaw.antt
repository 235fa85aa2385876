-- Replaying a recorded package gives the outcome of its world's run.
use Rattle.std.proofs.Common.{◌≡◌, ℕ, ◌≤◌, List, [], length, refl, sym, ap, ◌∙◌, subst, true}
use Rattle.std.specs.Prelude.{Some, Ok, IsTrue, codes}
use Rattle.ldv_value.specs.Limits.{input_limit, max_steps}
use Rattle.run_model.specs.declared.outcome.Outcome.{Outcome}
use Rattle.run_model.specs.declared.package.Mode.{Mode}
use Rattle.run_model.specs.declared.package.Mode.TheVariants.{Included, Excluded}
use Rattle.run_model.specs.declared.package.Package.{Package}
use Rattle.run_model.specs.declared.world.World.{World}
use Rattle.run_model.specs.LogRun.{log_outcome}
use Rattle.run_model.specs.Package.{package_of, own_world}
use Rattle.run_model.specs.WorldRun.{ends_within, outcome_within, steps_by}
use Rattle.sql_model.specs.Tables.{tables_test}
use Rattle.package_layout.specs.Valid.{reading}
use Rattle.package_codec.specs.Plain.{fits_version}
use Rattle.package_codec.specs.Version.{version_of}
use Rattle.package_codec.specs.declared.version.Version.{Version}
use Rattle.package_codec.specs.declared.version.Version.TheVariants.{Two}
use Rattle.package_layout.specs.Whole.{spelling, spelling_as}
use Rattle.run_laws.proofs.BudgetLaw.{outcome_ends, ended_outcome, enough_outcome}
use Rattle.run_laws.proofs.EndedLaw.{ended_starts}
use Rattle.run_laws.proofs.RunSteps.{steps_at_most}
use Rattle.replay_db.specs.Auditing.{SoundLaw, RecordedSoundLaw, IsOwn}
use Rattle.run_laws.specs.Laws.{SameRun, ReplayLaw}
use Rattle.run_laws.specs.LogLaws.{PickedLogLaw}
use Rattle.replay_db.specs.Worlds.{ValidWorld, WorldTablesLaw, ValidPackageLaw, TypedPackageLaw}
use Rattle.world_json.specs.Reading.{world_reading}
use Rattle.ldv_top.specs.declared.exit.Exit.TheVariants.{Done}
use Rattle.ldv_top.specs.Due.{DueOutput, due_outcome, outcome_due, due_world, due_reading, due_run, due_spelling, package_due, recorded_world, recorded_reading, due_record, due_divergence, due_log, replayed_as, replayed_package, due_replay}
use Rattle.ldv_top.specs.DueOfAudits.{due_audit}
use Rattle.ldv_top.specs.DueParts.{due_bytes, due_of_reading}
use Rattle.ldv_top.specs.Headline.{IsPackageOf, IsRecording}
use Rattle.ldv_top.proofs.ReadBack.{ReadAgain, ShortCounted, read_back as packed_read}
use Rattle.ldv_top.proofs.RecordLaws.{not_too_long, Spelled, spelling_done}
use Rattle.ldv_top.proofs.SoundLaws.{Written, run_written, version_spelled, sound_from}

-- ---- runs

-- two worlds with one outcome give the same
pub same_due : (n m : ℕ) (v w : World) (outcome : Outcome) → outcome_within n v ≡ Some outcome → outcome_within m w ≡ Some outcome
    → due_world n v ≡ due_world m w
same_due n m v w outcome of_v of_w =
    ap (due_outcome n outcome_due) of_v ∙ sym (ap (due_outcome m outcome_due) of_w)

-- ---- the laws

module _ (again : ReadAgain) (counted : ShortCounted) (valid : ValidPackageLaw) (typed : TypedPackageLaw) (valid_tables : WorldTablesLaw) (replay : ReplayLaw) (logs : PickedLogLaw) (sound : SoundLaw) (own_sound : RecordedSoundLaw) where
  read_back : (mode : Mode) (n : ℕ) (w : World) → ValidWorld w → n ≤ max_steps → ends_within n w ≡ true
      → length (spelling (package_of mode n w)) ≤ input_limit
      → reading (spelling (package_of mode n w)) ≡ Ok (package_of mode n w)
  read_back mode n w valid_world bounded ended short =
      packed_read again counted valid typed valid_tables mode n w valid_world bounded ended Two refl short

  -- over the needed rows
  own_due : (n budget : ℕ) (w : World) → ends_within n w ≡ true → tables_test w.tables ≡ true → steps_by n [] w ≤ budget
      → (outcome : Outcome) → outcome_within n w ≡ Some outcome
      → due_world budget (own_world (package_of Included n w)) ≡ due_world n w
  own_due n budget w ended tables enough outcome comes =
      let v : World = own_world (package_of Included n w) in
      let script = ended_starts n [] w ended in
      let same : SameRun n [] v w script.0 = replay n w script.0 script.1 tables in
      let steps : steps_by n [] v ≤ budget = subst (λ (k : ℕ). k ≤ budget) (sym (ap (λ (p : Package). p.steps) (same.packed Included))) enough in
      let in_v : outcome_within budget v ≡ Some outcome = enough_outcome n v (same.ends ∙ ended) budget steps ∙ same.outcome ∙ comes in
      same_due budget n v w outcome in_v comes

  -- over the recorded replies
  log_due : (n budget : ℕ) (w : World) → ends_within n w ≡ true → tables_test w.tables ≡ true → steps_by n [] w ≤ budget
      → (outcome : Outcome) → outcome_within n w ≡ Some outcome
      → due_log budget (package_of Excluded n w) ≡ due_world n w
  log_due n budget w ended tables enough outcome comes =
      let p : Package = package_of Excluded n w in
      let script = ended_starts n [] w ended in
      let law = logs n budget [] w script.0 script.1 tables ended in
      let in_p : log_outcome budget [] p ≡ Some outcome = law.1 ∙ enough_outcome n w ended budget enough ∙ comes in
      ap (due_divergence (due_outcome budget outcome_due (log_outcome budget [] p))) law.0
      ∙ ap (due_outcome budget outcome_due) in_p
      ∙ sym (ap (due_outcome n outcome_due) comes)

  either_due : (mode : Mode) (n budget : ℕ) (w : World) → ends_within n w ≡ true → tables_test w.tables ≡ true → steps_by n [] w ≤ budget
      → (outcome : Outcome) → outcome_within n w ≡ Some outcome
      → replayed_as mode budget (package_of mode n w) ≡ due_world n w
  either_due Included n budget w ended tables enough outcome comes = own_due n budget w ended tables enough outcome comes
  either_due Excluded n budget w ended tables enough outcome comes = log_due n budget w ended tables enough outcome comes

  spelling_due : (mode : Mode) (n budget : ℕ) (w : World) → ValidWorld w → n ≤ max_steps
      → (version : Version) → IsTrue (fits_version version (package_of mode n w))
      → length (spelling_as version (package_of mode n w)) ≤ input_limit
      → steps_by n [] w ≤ budget
      → (outcome : Outcome) → outcome_within n w ≡ Some outcome
      → due_replay budget (spelling_as version (package_of mode n w)) ≡ due_world n w
  spelling_due mode n budget w valid_world bounded version fits short enough outcome comes =
      let ended : ends_within n w ≡ true = outcome_ends n w outcome comes in
      rw (not_too_long (spelling_as version (package_of mode n w)) short)
      (ap (due_of_reading (replayed_package budget))
      (packed_read again counted valid typed valid_tables mode n w valid_world bounded ended version fits short)
      ∙ either_due mode n budget w ended (valid_tables w valid_world) enough outcome comes)

  -- an audit of the package with the needed rows
  sound_due : (n budget : ℕ) (w : World) (bytes : List ℕ) → ValidWorld w → n ≤ max_steps → ends_within n w ≡ true
      → length (spelling (package_of Included n w)) ≤ input_limit
      → steps_by n [] w ≤ budget
      → bytes ≡ spelling (package_of Included n w)
      → due_audit budget bytes ≡ due_bytes (codes "sound\n")
  sound_due n budget w bytes valid_world bounded ended short enough is =
      let p : Package = package_of Included n w in
      let script = ended_starts n [] w ended in
      let own : IsOwn budget p = own_sound n budget w script.0 script.1 (valid_tables w valid_world) ended enough in
      let short_bytes : length bytes ≤ input_limit = subst (λ (l : List ℕ). length l ≤ input_limit) (sym is) short in
      sound_from budget Two bytes p short_bytes (ap reading is ∙ read_back Included n w valid_world bounded ended short) refl
      (ap version_of is ∙ version_spelled Two p) sound own.ends (is ∙ sym (ap spelling own.same))

  -- the same by the mode, which is that one
  mode_sound : (mode : Mode) (n budget : ℕ) (w : World) (bytes : List ℕ) → mode ≡ Included → ValidWorld w → n ≤ max_steps → ends_within n w ≡ true
      → length (spelling (package_of mode n w)) ≤ input_limit
      → steps_by n [] w ≤ budget
      → bytes ≡ spelling (package_of mode n w)
      → due_audit budget bytes ≡ due_bytes (codes "sound\n")
  mode_sound Included n budget w bytes included = sound_due n budget w bytes
  mode_sound Excluded n budget w bytes included = absurd cc

  -- the package of a valid world
  pub replay_due : (mode : Mode) (n budget : ℕ) (w : World) (input : List ℕ) → IsPackageOf mode n w input → steps_by n [] w ≤ budget → due_replay budget input ≡ due_world n w
  replay_due mode n budget w input package_of enough =
      let outcome = ended_outcome n w package_of.ends in
      ap (due_replay budget) package_of.same
      ∙ spelling_due mode n budget w package_of.valid package_of.bounded package_of.version package_of.fits package_of.short
      enough outcome.0 outcome.1

  -- the package that is recorded of a document
  pub recorded_due : (mode : Mode) (n : ℕ) (document : List ℕ) (w : World) → length document ≤ input_limit → n ≤ max_steps → world_reading document ≡ Ok w → ValidWorld w
      → (due_record mode n document).exit ≡ Done → IsRecording mode n document (due_record mode n document).bytes
  recorded_due mode n document w short bounded is valid_world done =
      let recorded : due_record mode n document ≡ recorded_world mode n w = rw (not_too_long document short) (ap (recorded_reading mode n) is) in
      let ran : Written n w (package_due mode n w) = run_written n w (package_due mode n w) (ap (λ (d : DueOutput). d.exit) (sym recorded) ∙ done) in
      let runs : due_run n document ≡ due_world n w = rw (not_too_long document short) (ap (due_reading n) is) in
      let p : Package = package_of mode n w in
      let spelled : Spelled (due_spelling (spelling p)) (spelling p) = spelling_done (spelling p) ran.finished in
      let bytes : (due_record mode n document).bytes ≡ spelling p = ap (λ (d : DueOutput). d.bytes) (recorded ∙ ran.due) ∙ spelled.1 in
      let ended : ends_within n w ≡ true = outcome_ends n w ran.outcome ran.comes in
      let done_world : due_world n w ≡ outcome_due ran.outcome = ap (due_outcome n outcome_due) ran.comes in
      record {
        world = w;
        is_world = is;
        spelled = bytes;
        read_back = ap reading bytes ∙ read_back mode n w valid_world bounded ended spelled.0;
        within = steps_at_most n [] w;
        replayed = λ steps enough. ap (due_replay steps) bytes ∙ spelling_due mode n steps w valid_world bounded Two refl spelled.0 enough ran.outcome ran.comes ∙ sym runs;
        ends = ap (λ (d : DueOutput). d.exit) (runs ∙ done_world);
        sound = λ included steps enough. mode_sound mode n steps w _ included valid_world bounded ended spelled.0 enough bytes;
      }
