-- Expressions over a group, with their aggregates replaced by constants.
use Rattle.std.specs.Prelude.{◌≡◌, ℕ, List, [], ◌∷◌, ◌++◌}
use Rattle.lineage.specs.declared.answer.Pick.{Pick}
use Rattle.group_eval.specs.inner.Folding.{first_row, group_meaning}
use Rattle.predicates.specs.Placing.{IsPlaced}
use Rattle.group_eval.specs.Types.{Expr}
use Rattle.predicates.specs.declared.placed.BoundExpr.{BoundExpr}
use Rattle.sql_model.specs.Kinds.{names_in}
use Rattle.sql_model.specs.Meaning.{Meaning, eval}
use Rattle.sql_model.specs.Scope.{InScope, places_in, environment}

-- over the first row of a group
abbrev pub first_meaning : List InScope → List Pick → Expr → Meaning
first_meaning scope picks expr = eval expr (environment scope (first_row picks) ∷ [])

-- in each scope: its places are taken from the front, those of the bound expression are appended, and the
-- bound expression means over the first row what the expression means over the group
abbrev pub BindsTo : List Pick → Expr → List ℕ → List ℕ → Expr → List ℕ → List ℕ → Type 0
BindsTo picks expr places own bound new left =
    (scope : List InScope) (more : List ℕ) → places ≡ places_in scope (names_in expr) ++ more
    → (left ≡ more)
    × (new ≡ own ++ places_in scope (names_in bound))
    × (first_meaning scope picks bound ≡ group_meaning scope picks expr)

pub record IsBound (scope : List InScope) (picks : List Pick) (expr : Expr) (bound : BoundExpr)
    : Type 0 where
  pub placed : IsPlaced scope bound
  pub same : first_meaning scope picks bound.expr ≡ group_meaning scope picks expr
