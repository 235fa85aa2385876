-- Conditions, one by one.
use Rattle.std.specs.Prelude.{◌≡◌, ℕ, List, ◌++◌, Bool, ◌&&◌}
use Rattle.std.specs.List.{list_all}
use Rattle.predicates.specs.Placing.{AreAllPlaced}
use Rattle.predicates.specs.Types.{Expr, Value}
use Rattle.predicates.specs.declared.placed.BoundExpr.{BoundExpr}
use Rattle.sql_model.specs.Kinds.{names_in}
use Rattle.sql_model.specs.Meaning.{is_true, truth}
use Rattle.sql_model.specs.QueryAnswer.{meets_all}
use Rattle.sql_model.specs.Scope.{InScope, environment, places_in}

-- each condition is True over a joined row
abbrev pub meets : List InScope → List BoundExpr → List Value → Bool
meets scope conds values = list_all (λ c. is_true (truth c.expr (environment scope values))) conds

-- the conditions mean what they did, and one condition more, which takes its places and leaves the others
abbrev pub Adds : List BoundExpr → Expr → List ℕ → List BoundExpr → List ℕ → Type 0
Adds old expr places new left = (scope : List InScope) (more : List ℕ)
    → places ≡ places_in scope (names_in expr) ++ more
    → (left ≡ more)
    × (AreAllPlaced scope old → AreAllPlaced scope new)
    × ((values : List Value) → meets scope new values
    ≡ (meets scope old values && is_true (truth expr (environment scope values))))

-- the conditions together mean what others do
pub record AreConditions (scope : List InScope) (picks : List Expr) (conds : List BoundExpr) : Type 0 where
  pub placed : AreAllPlaced scope conds
  pub same : (values : List Value) → meets scope conds values ≡ meets_all picks (environment scope values)
