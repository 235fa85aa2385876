-- The excluded package of a private world replays to that world's outcome under every seed.
use Rattle.std.proofs.Common.{◌≡◌, ℕ, ◌≤◌, List, [], length, sym, ap, ◌∙◌, subst, Bool, true, false}
use Rattle.std.specs.Prelude.{Some, None, Ok, nat_lt, if◌then◌else◌}
use Rattle.ldv_value.specs.Limits.{input_limit}
use Rattle.sql_model.specs.Tables.{tables_test}
use Rattle.run_model.specs.LogRun.{log_outcome}
use Rattle.run_model.specs.Package.{package_of}
use Rattle.run_model.specs.WorldRun.{ends_within, steps_by, events_within, outcome_within}
use Rattle.run_model.specs.declared.package.Mode.TheVariants.{Excluded}
use Rattle.run_model.specs.declared.package.Package.{Package}
use Rattle.run_model.specs.declared.world.World.{World}
use Rattle.run_laws.proofs.BudgetLaw.{ended_outcome}
use Rattle.run_laws.proofs.EndedLaw.{ended_starts}
use Rattle.package_layout.specs.Valid.{reading}
use Rattle.replay_db.specs.Worlds.{WorldTablesLaw, ValidPackageLaw, TypedPackageLaw}
use Rattle.replay_log.specs.Replays.{with_seed}
use Rattle.free_order.specs.Orders.{OrderLaw}
use Rattle.free_order.specs.Private.{private_test}
use Rattle.free_order.proofs.NotLess.{not_less}
use Rattle.ldv_top.specs.declared.exit.Exit.TheVariants.{NotPrivate}
use Rattle.ldv_top.specs.Due.{due_refusal, due_outcome, outcome_due, due_world, due_divergence, due_log, reseeded_package, due_replay_seed}
use Rattle.ldv_top.specs.DueParts.{due_of_reading}
use Rattle.ldv_top.specs.Headline.{IsPackageOf}
use Rattle.ldv_top.proofs.ReadBack.{ReadAgain, ShortCounted, read_back}
use Rattle.ldv_top.proofs.RecordLaws.{not_too_long}

-- what is due for the package that the bytes are
pub reseeded_read : (seed budget : ℕ) (p : Package) (input : List ℕ) → length input ≤ input_limit → reading input ≡ Ok p
    → reseeded_package seed budget p ≡ due_replay_seed seed budget input
reseeded_read seed budget p input short read =
    rw (not_too_long input short) (sym (ap (due_of_reading (reseeded_package seed budget)) read))

module _ (order : OrderLaw) (n seed budget : ℕ) (w : World) (ended : ends_within n w ≡ true) (tables : tables_test w.tables ≡ true)
    (private : private_test (events_within n w) ≡ true) (enough : steps_by n [] w ≤ budget) where
  abbrev reseeded : Package
  reseeded = with_seed seed (package_of Excluded n w)

  log_same : due_log budget reseeded ≡ due_world n w
  log_same =
      let script = ended_starts n [] w ended in
      let outcome = ended_outcome n w ended in
      let late : nat_lt budget (steps_by n [] w) ≡ false = not_less budget (steps_by n [] w) enough in
      let law = order n budget seed [] w script.0 script.1 tables ended private in
      let comes : log_outcome budget [] reseeded ≡ Some outcome.0 =
      law.1 ∙ ap (λ (b : Bool). if b then None else outcome_within n w) late ∙ outcome.1 in
      ap (due_divergence (due_outcome budget outcome_due (log_outcome budget [] reseeded))) law.0
      ∙ ap (due_outcome budget outcome_due) comes
      ∙ sym (ap (due_outcome n outcome_due) outcome.1)

  pub free_same : reseeded_package seed budget (package_of Excluded n w) ≡ due_world n w
  free_same = ap (λ (b : Bool). if b then due_log budget reseeded else due_refusal NotPrivate) private ∙ log_same

module _ (again : ReadAgain) (counted : ShortCounted) (valid : ValidPackageLaw) (typed : TypedPackageLaw) (valid_tables : WorldTablesLaw)
    (order : OrderLaw) where
  pub seed_due : (n seed budget : ℕ) (w : World) (input : List ℕ) → IsPackageOf Excluded n w input
      → private_test (events_within n w) ≡ true
      → steps_by n [] w ≤ budget
      → due_replay_seed seed budget input ≡ due_world n w
  seed_due n seed budget w input package_of_world private enough =
      let p : Package = package_of Excluded n w in
      let is = package_of_world.same in
      let read : reading input ≡ Ok p =
      ap reading is
      ∙ read_back again counted valid typed valid_tables Excluded n w package_of_world.valid package_of_world.bounded
      package_of_world.ends package_of_world.version package_of_world.fits package_of_world.short in
      let short : length input ≤ input_limit = subst (λ (l : List ℕ). length l ≤ input_limit) (sym is) package_of_world.short in
      sym (reseeded_read seed budget p input short read)
      ∙ free_same order n seed budget w package_of_world.ends (valid_tables w package_of_world.valid) private enough
