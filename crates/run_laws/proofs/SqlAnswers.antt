-- Every question of SQL has an answer, so no run over SQL stops for want of one.
use Rattle.std.proofs.Common.{◌≡◌, ℕ, zero, suc, List, sym, ap, ◌∙◌, false, inl, inr}
use Rattle.std.specs.Prelude.{Option, Some, None, is_some, slice_get}
use Rattle.std.proofs.lemmas.Bool.{cases_Bool}
use Rattle.ldv_value.proofs.Booleans.{or-parts}
use Rattle.run_model.specs.Core.{Divergence, Core, have_all_ended, is_over}
use Rattle.run_model.specs.Run.{first_pick, later_picks, chosen, move, run}
use Rattle.run_model.specs.Schedule.{choose}
use Rattle.run_model.specs.SqlDatabase.{SqlDatabase, sql_base}
use Rattle.run_model.specs.State.{State}
use Rattle.sql_model.specs.Statements.{reply_of}
use Rattle.run_model.specs.Step.{Ask, next_ask, asking}
use Rattle.run_model.proofs.Equations.{run-zero, run-over, run-suc}
use Rattle.sql_model.specs.Texts.{statement_of}
use Rattle.run_model.proofs.Undiverged.{quiet_goes, took_goes}

-- ---- steps

asking_goes : (number : ℕ) (s : State SqlDatabase) (o : Option Ask)
    → (asking sql_base number s o).state.core.diverged ≡ s.core.diverged
asking_goes number s None = quiet_goes (slice_get s.core.processes number) number s.core
asking_goes number s (Some a) =
    took_goes (slice_get s.core.processes number) number a (reply_of (statement_of a.question.text a.question.params) s.db.tables) s.core

move_goes : (pick : Option ℕ) (s : State SqlDatabase) → (move sql_base pick s).state.core.diverged ≡ s.core.diverged
move_goes pick s =
    let number : ℕ = choose pick s.core in
    asking_goes number (chosen number s) (next_ask number (chosen number s).core)

-- ---- runs

never_stops : (n : ℕ) (picks : List ℕ) (s : State SqlDatabase) → s.core.diverged ≡ None
    → (run sql_base n picks s).core.diverged ≡ None
never_stops zero picks s none = ap (λ (t : State SqlDatabase). t.core.diverged) (run-zero sql_base picks s) ∙ none
never_stops (suc n) picks s none = elim (cases_Bool (is_over s.core)) [
  | inl over ↦ ap (λ (t : State SqlDatabase). t.core.diverged) (run-over sql_base (suc n) picks s over) ∙ none
  | inr going ↦
      ap (λ (t : State SqlDatabase). t.core.diverged) (run-suc sql_base n picks s going)
      ∙ never_stops n (later_picks picks) (move sql_base (first_pick picks) s).state (move_goes (first_pick picks) s ∙ none)
]

pub never_diverged : (n : ℕ) (picks : List ℕ) (s : State SqlDatabase) → s.core.diverged ≡ None → (d : Divergence)
    → (run sql_base n picks s).core.diverged ≡ Some d → ⊥
never_diverged n picks s none d is = let never : None ≡ Some d = sym (never_stops n picks s none) ∙ is in absurd cc

-- a run that isn't over hasn't ended
pub not_over : (c : Core) → is_over c ≡ false → have_all_ended c ≡ false
not_over c going = (or-parts (is_some c.diverged) (have_all_ended c) going).1
