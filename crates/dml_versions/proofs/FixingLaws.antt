-- The key that WHERE fixes.
use Rattle.std.proofs.Common.{◌≡◌, ◌∙◌, ◌+◌, ◌<◌, ap, sym, ℕ, List, [], ◌∷◌, arith, Some}
use Rattle.predicates.proofs.FixingLaws.{fixed-key}
use Rattle.predicates.specs.Conditions.{AreConditions}
use Rattle.predicates.specs.Fixing.{FixesKey as FixesBy}
use Rattle.predicates.specs.declared.placed.BoundExpr.{BoundExpr}
use Rattle.sql_model.specs.Kinds.{names_in}
use Rattle.ldv_value.specs.Cells.{value_at}
use Rattle.sql_model.specs.Scope.{InScope, places_in}
use Rattle.dml_versions.specs.inner.Fixing.{WhereFixesKey}
use Rattle.dml_versions.specs.Types.{Expr, Value}

pub key-fixed : (expr : Expr) (places key : List ℕ) (width : ℕ) (conds : List BoundExpr) (values : List Value)
    → ((scope : List InScope) → places ≡ places_in scope (names_in expr) → AreConditions scope (expr ∷ []) conds)
    → FixesBy conds 0 width key values → WhereFixesKey (Some expr) places key values
key-fixed expr places key width conds values are fixed = (
  fixed.some,
  (λ scope placed row hit.
      let conditions = are scope (sym placed) in
      fixed-key scope conds conditions.placed 0 width row.values row.values (from-start row.values)
      (conditions.same row.values ∙ hit) key values fixed),
)
  where
    from-start : (row : List Value) (column : ℕ) → column < width → value_at row (0 + column) ≡ value_at row column
    from-start row column below = let same : 0 + column ≡ column = omega arith in ap (value_at row) same
