-- The expressions that are evaluated over the groups of a core.
use Rattle.std.specs.Prelude.{◌≡◌, List, map, Option, Some, None}
use Rattle.predicates.specs.Placing.{IsPlaced, AreAllPlaced}
use Rattle.group_eval.specs.Types.{Core, Expr, Item}
use Rattle.predicates.specs.declared.placed.BoundExpr.{BoundExpr}
use Rattle.group_eval.specs.declared.plan.Plan.{Plan}
use Rattle.sql_model.specs.Scope.{InScope, places_in}

-- the items, or all columns
abbrev pub AreItems : List InScope → Option (List Item) → Option (List BoundExpr) → Type 0
AreItems scope None None = Unit {0}
AreItems scope None (Some placed) = ⊥
AreItems scope (Some items) None = ⊥
AreItems scope (Some items) (Some placed) =
    (map (λ p. p.expr) placed ≡ map (λ item. item.expr) items) × AreAllPlaced scope placed

abbrev pub IsHaving : List InScope → Option Expr → Option BoundExpr → Type 0
IsHaving scope None None = Unit {0}
IsHaving scope None (Some placed) = ⊥
IsHaving scope (Some having) None = ⊥
IsHaving scope (Some having) (Some placed) = (placed.expr ≡ having) × IsPlaced scope placed

-- the expressions of a core with their places in a scope
pub record IsPlan (scope : List InScope) (core : Core) (plan : Plan) : Type 0 where
  pub items : AreItems scope core.items plan.items
  pub group : plan.group ≡ places_in scope core.group
  pub having : IsHaving scope core.having plan.having
