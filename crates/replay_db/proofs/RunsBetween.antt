-- If a world lies between the slice of a larger world and that world, its results are those of the larger
-- one.
use Rattle.std.proofs.Common.{◌≡◌, ℕ, ◌≤◌, [], refl, sym, ap, ◌∙◌, subst, true}
use Rattle.std.specs.Prelude.{Option, Some, None, Result, Ok, Err}
use Rattle.ldv_value.specs.Gives.{Gives}
use Rattle.sql_model.specs.Tables.{tables_test}
use Rattle.run_model.specs.Between.{Between}
use Rattle.run_model.specs.Package.{package_of}
use Rattle.run_model.specs.WorldRun.{ends_within, outcome_within}
use Rattle.run_laws.specs.Laws.{SameRun, SettledRun}
use Rattle.replay_db.specs.Runs.{Stops, package_within, IsNoMemory, RunsAs, RecordsAs}
use Rattle.replay_db.specs.Types.{Mode, Outcome, Package, World}
use Rattle.replay_db.specs.declared.error.EndStop.{EndStop}
use Rattle.replay_db.specs.declared.error.EndStop.TheVariants.{NotEnded, NoMemory}
use Rattle.run_laws.proofs.BudgetLaw.{ended_outcome, outcome_ends}
use Rattle.run_laws.proofs.EndedLaw.{ended_law, ended_starts}
use Rattle.replay_db.proofs.RecordedRuns.{package_is}
use Rattle.run_laws.proofs.WorldLaws.{between_law}

-- where something is due, `NotEnded` doesn't come
is_due : {X : Type 0} (r : Result X EndStop) (due : Option X) (x : X) → due ≡ Some x → Gives Stops r due
    → Gives IsNoMemory r due
is_due (Ok y) due x is given = given
is_due (Err NotEnded) due x is given = let never : None ≡ Some x = sym given ∙ is in absurd cc
is_due (Err NoMemory) due x is given = tt

module _ (budget n : ℕ) (v w : World) (valid : tables_test w.tables ≡ true) (ended : ends_within n w ≡ true)
    (enough : n ≤ budget) (between : Between n v w) where
  same : SameRun n [] v w (ended_starts n [] w ended).0
  same = between_law n w v (ended_starts n [] w ended).0 (ended_starts n [] w ended).1 valid between

  settles : SettledRun n budget [] v
  settles = ended_law n budget [] v (same.ends ∙ ended) enough

  outcome_is : outcome_within budget v ≡ outcome_within n w
  outcome_is = settles.outcome ∙ same.outcome

  ends : ends_within budget v ≡ true
  ends = let some = ended_outcome n w ended in outcome_ends budget v some.0 (outcome_is ∙ some.1)

  package_due : (mode : Mode) → package_within mode budget v ≡ Some (package_of mode n w)
  package_due mode = package_is mode budget v ends ∙ ap Some (settles.packed mode ∙ same.packed mode)

pub runs_as : (budget : ℕ) (v : World) (r : Result Outcome EndStop) → Gives Stops r (outcome_within budget v)
    → RunsAs budget v r
runs_as budget v r given = λ n w valid ended enough between.
    let some = ended_outcome n w ended in
    is_due r (outcome_within n w) some.0 some.1
    (subst (λ (due : Option Outcome). Gives Stops r due) (outcome_is budget n v w valid ended enough between) given)

pub records_as : (mode : Mode) (budget : ℕ) (v : World) (r : Result Package EndStop)
    → Gives Stops r (package_within mode budget v)
    → RecordsAs mode budget v r
records_as mode budget v r given = λ n w valid ended enough between.
    let p : Package = package_of mode n w in
    is_due r (Some p) p refl
    (subst (λ (due : Option Package). Gives Stops r due) (package_due budget n v w valid ended enough between mode) given)
