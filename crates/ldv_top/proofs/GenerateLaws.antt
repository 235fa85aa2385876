-- The due output for the record and the replay of a generated world.
use Rattle.std.proofs.Common.{◌≡◌, ℕ, ◌≤◌, ◌<◌, List, ◌++◌, length, refl, sym, ap, ◌∙◌, subst, true, arith, inl, inr}
use Rattle.std.specs.Prelude.{Bool, Some, None, if◌then◌else◌}
use Rattle.std.proofs.lemmas.Bool.{cases_Bool}
use Rattle.ldv_value.specs.Limits.{default_steps, input_limit}
use Rattle.run_model.specs.declared.outcome.Outcome.{Outcome}
use Rattle.run_model.specs.declared.package.Mode.TheVariants.{Included}
use Rattle.run_model.specs.declared.package.Package.{Package}
use Rattle.run_model.specs.declared.world.World.{World}
use Rattle.run_model.specs.OutcomeText.{outcome_text_of}
use Rattle.run_model.specs.Package.{own_world, package_of}
use Rattle.run_model.specs.Start.{start_script}
use Rattle.run_model.specs.Types.{Instr}
use Rattle.run_model.specs.WorldRun.{ends_within, outcome_within}
use Rattle.package_layout.specs.Valid.{IsValidPackage}
use Rattle.package_layout.specs.Whole.{spelling}
use Rattle.run_laws.proofs.BudgetLaw.{ended_outcome, going_outcome}
use Rattle.run_laws.proofs.WorldLaws.{replay_law}
use Rattle.replay_db.proofs.RecordedRuns.{package_is, package_none}
use Rattle.replay_db.specs.Runs.{package_within}
use Rattle.replay_db.specs.Worlds.{ValidPackageLaw, ValidWorld, WorldTablesLaw}
use Rattle.ldv_top.specs.declared.exit.Exit.TheVariants.{NotEnded, PackageTooLong}
use Rattle.ldv_top.specs.DueOfGenerate.{replay_line, row_count, summary_due, summary_head, summed_outcome, summed_package, summed_replay, summed_spelling, summed_world}
use Rattle.ldv_top.specs.DueParts.{due_bytes, due_refusal, due_outcome}
use Rattle.ldv_top.proofs.RecordLaws.{not_too_long, too_long}

-- ---- the record

-- a package that is there is that of a run that has ended
module _ (w : World) (p : Package) (is : package_within Included default_steps w ≡ Some p) where
  ended : ends_within default_steps w ≡ true
  ended = elim (cases_Bool (ends_within default_steps w)) [
    | inl over ↦ over
    | inr going ↦ let never : None ≡ Some p = sym (package_none Included default_steps w going) ∙ is in absurd cc
  ]

  recorded : p ≡ package_of Included default_steps w
  recorded = let both : Some p ≡ Some (package_of Included default_steps w) = sym is ∙ package_is Included default_steps w ended in cc

  pub recorded_valid : WorldTablesLaw → ValidPackageLaw → ValidWorld w → IsValidPackage p
  recorded_valid tables law valid =
      subst IsValidPackage (sym recorded) (law Included default_steps w valid.ruled (tables w valid) tt (omega arith) ended)

  -- its own world starts with the script of the world
  pub recorded_script : WorldTablesLaw → ValidWorld w → (script : List Instr) → start_script w ≡ Some script
      → start_script (own_world p) ≡ Some script
  recorded_script tables valid script starts =
      ap (λ (q : Package). start_script (own_world q)) recorded
      ∙ (replay_law default_steps w script starts (tables w valid)).script_same

  pub summed_in_time : (orders rows : ℕ) → rows ≡ row_count w.tables → summed_package orders rows p ≡ summed_world orders w
  summed_in_time orders rows counted =
      ap (λ (n : ℕ). summed_package orders n p) counted
      ∙ ap (λ (q : Package). summed_package orders (row_count w.tables) q) recorded
      ∙ sym (ap (due_outcome default_steps (summed_outcome orders w)) (ended_outcome default_steps w ended).1)

pub summed_late : (orders : ℕ) (w : World) → package_within Included default_steps w ≡ None
    → due_refusal (NotEnded default_steps) ≡ summed_world orders w
summed_late orders w is = elim (cases_Bool (ends_within default_steps w)) [
  | inl over ↦ let never : None ≡ Some (package_of Included default_steps w) = sym is ∙ package_is Included default_steps w over in absurd cc
  | inr going ↦ sym (ap (due_outcome default_steps (summed_outcome orders w)) (going_outcome default_steps w going))
]

-- ---- the replay

pub replay_in_time : (head : List ℕ) (p : Package) (outcome : Outcome) → outcome_within default_steps (own_world p) ≡ Some outcome
    → due_bytes (head ++ replay_line (outcome_text_of outcome)) ≡ summed_replay head p
replay_in_time head p outcome is = sym (ap (due_outcome default_steps (summary_due head)) is)

pub replay_late : (head : List ℕ) (p : Package) → outcome_within default_steps (own_world p) ≡ None
    → due_refusal (NotEnded default_steps) ≡ summed_replay head p
replay_late head p is = sym (ap (due_outcome default_steps (summary_due head)) is)

pub ruleset replay_sums = (replay_in_time, replay_late)

-- ---- the spelling

pub summed_whole : (orders rows : ℕ) (p : Package) (bytes : List ℕ) → bytes ≡ spelling p → length bytes ≤ input_limit
    → summed_replay (summary_head orders rows p bytes) p ≡ summed_package orders rows p
summed_whole orders rows p bytes same short =
    sym (ap (λ (b : Bool). if b then due_refusal PackageTooLong else summed_replay (summary_head orders rows p bytes) p) (not_too_long bytes short))
    ∙ ap (λ (l : List ℕ). summed_spelling orders rows p l) same

pub summed_long : (orders rows : ℕ) (p : Package) → input_limit < length (spelling p)
    → due_refusal PackageTooLong ≡ summed_package orders rows p
summed_long orders rows p long = rw (too_long (spelling p) long) refl
