-- Calls that make no list of a package's events: its replay, its tables after steps, its audit, its
-- migration.
use Rattle.std.proofs.Common.{◌≡◌, ℕ, ◌≤◌, List, [], length, refl, sym, ap, ◌∙◌}
use Rattle.std.specs.Prelude.{Option, Some, None, Ok}
use Rattle.ldv_value.specs.Limits.{input_limit}
use Rattle.run_model.specs.LogRun.{log_outcome_in, log_divergence_in}
use Rattle.run_model.specs.Package.{own_world}
use Rattle.run_model.specs.Start.{start_script}
use Rattle.run_model.specs.Types.{Instr}
use Rattle.run_model.specs.declared.package.Mode.{Mode}
use Rattle.run_model.specs.declared.package.Mode.TheVariants.{Included, Excluded}
use Rattle.run_model.specs.declared.package.Package.{Package}
use Rattle.package_codec.specs.CompactPackages.{expanded_package}
use Rattle.package_layout.specs.Valid.{reading}
use Rattle.package_layout.specs.Whole.{spelling}
use Rattle.package_codec.specs.declared.compact_package.CompactPackage.{CompactPackage}
use Rattle.replay_db.specs.TableAt.{table_by_mode}
use Rattle.replay_log.specs.Replays.{CanReplay}
use Rattle.ldv_top.specs.Due.{due_outcome, outcome_due, due_divergence, due_log, replayed_as, replayed_package, due_replay}
use Rattle.ldv_top.specs.DueOfAudits.{audit_by_mode, audited_package, due_audit}
use Rattle.ldv_top.specs.DueOfMigrations.{migrated_package, due_migrate}
use Rattle.ldv_top.specs.DueOfTables.{table_due, tabled_package, due_table}
use Rattle.ldv_top.specs.DueParts.{due_of_reading, due_spelling}
use Rattle.ldv_top.proofs.RecordLaws.{not_too_long}

module _ (r : CompactPackage) where
  abbrev bare : Package
  bare = r.bare

  abbrev all : Package
  all = expanded_package r

  -- ---- over recorded replies

  pub bare_replays : CanReplay all → CanReplay bare
  bare_replays can = record { script = can.script; files = can.files; logs = can.logs }

  outcome_in : (budget : ℕ) (script : Option (List Instr)) → log_outcome_in budget [] bare script ≡ log_outcome_in budget [] all script
  outcome_in budget None = refl
  outcome_in budget (Some script) = refl

  divergence_in : (budget : ℕ) (script : Option (List Instr)) → log_divergence_in budget [] bare script ≡ log_divergence_in budget [] all script
  divergence_in budget None = refl
  divergence_in budget (Some script) = refl

  log_same : (budget : ℕ) → due_log budget bare ≡ due_log budget all
  log_same budget =
      let script : Option (List Instr) = start_script (own_world bare) in
      (λ j. due_divergence (due_outcome budget outcome_due (outcome_in budget script j)) (divergence_in budget script j))

  -- ---- by the mode

  replayed_same : (mode : Mode) (budget : ℕ) → replayed_as mode budget bare ≡ replayed_as mode budget all
  replayed_same Included budget = refl
  replayed_same Excluded budget = log_same budget

  table_same : (mode : Mode) (budget step : ℕ) (name : List ℕ) → table_by_mode mode budget step name bare ≡ table_by_mode mode budget step name all
  table_same Included budget step name = refl
  table_same Excluded budget step name = refl

  audit_same : (mode : Mode) (budget : ℕ) (input : List ℕ) → audit_by_mode mode budget input bare ≡ audit_by_mode mode budget input all
  audit_same Included budget input = refl
  audit_same Excluded budget input = refl

  -- ---- of an input that is read as the package

  module _ (input : List ℕ) (short : length input ≤ input_limit) (read : reading input ≡ Ok all) where
    pub replay_read : (budget : ℕ) → replayed_package budget bare ≡ due_replay budget input
    replay_read budget = rw (not_too_long input short) (replayed_same bare.mode budget ∙ sym (ap (due_of_reading (replayed_package budget)) read))

    pub table_read : (name : List ℕ) (step budget : ℕ) → tabled_package name step budget bare ≡ due_table name step budget input
    table_read name step budget =
        rw (not_too_long input short)
        (ap (table_due budget) (table_same bare.mode budget step name) ∙ sym (ap (due_of_reading (tabled_package name step budget)) read))

    pub audit_read : (budget : ℕ) → audited_package budget input bare ≡ due_audit budget input
    audit_read budget =
        rw (not_too_long input short)
        (audit_same bare.mode budget input ∙ sym (ap (due_of_reading (audited_package budget input)) read))

    pub migrate_read : due_spelling (spelling all) ≡ due_migrate input
    migrate_read = rw (not_too_long input short) (sym (ap (due_of_reading migrated_package) read))
