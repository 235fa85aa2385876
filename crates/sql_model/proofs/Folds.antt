-- The equations of a fold over expressions, form by form.
use Rattle.std.proofs.Common.{◌≡◌, sym, ap, ◌∙◌}
use Rattle.std.specs.Prelude.{Bool, Some, None}
use Rattle.sql_model.specs.Types.{Value, ColumnName, Expr, Expr-F, Fold, Operator}
use Rattle.sql_model.specs.declared.expr.Expr.TheVariants.{Constant, Column, Negate, Not, Both, IsNull, Aggregate, rolls-Constant, rolls-Column, rolls-Negate, rolls-Not, rolls-Both, rolls-IsNull, rolls-Aggregate}
use Rattle.sql_model.specs.declared.expr.Expr.TheOpen as open_expr
use Rattle.sql_model.specs.declared.expr.Expr.TheFolds.{fold-Expr, fold-roll-Expr}

module _ {A : Type 0} (step : Expr-F A → A) where
  pub fold-Constant : (v : Value) → fold-Expr A step (Constant v) ≡ step (open_expr.Constant v)
  fold-Constant v = ap (fold-Expr A step) (sym (rolls-Constant v)) ∙ fold-roll-Expr A step (open_expr.Constant v)

  pub fold-Column : (c : ColumnName) → fold-Expr A step (Column c) ≡ step (open_expr.Column c)
  fold-Column c = ap (fold-Expr A step) (sym (rolls-Column c)) ∙ fold-roll-Expr A step (open_expr.Column c)

  pub fold-Negate : (e : Expr) → fold-Expr A step (Negate e) ≡ step (open_expr.Negate (fold-Expr A step e))
  fold-Negate e = ap (fold-Expr A step) (sym (rolls-Negate e)) ∙ fold-roll-Expr A step (open_expr.Negate e)

  pub fold-Not : (e : Expr) → fold-Expr A step (Not e) ≡ step (open_expr.Not (fold-Expr A step e))
  fold-Not e = ap (fold-Expr A step) (sym (rolls-Not e)) ∙ fold-roll-Expr A step (open_expr.Not e)

  pub fold-Both : (op : Operator) (a b : Expr) → fold-Expr A step (Both op a b) ≡ step (open_expr.Both op (fold-Expr A step a) (fold-Expr A step b))
  fold-Both op a b = ap (fold-Expr A step) (sym (rolls-Both op a b)) ∙ fold-roll-Expr A step (open_expr.Both op a b)

  pub fold-IsNull : (e : Expr) (negative : Bool) → fold-Expr A step (IsNull e negative) ≡ step (open_expr.IsNull (fold-Expr A step e) negative)
  fold-IsNull e negative = ap (fold-Expr A step) (sym (rolls-IsNull e negative)) ∙ fold-roll-Expr A step (open_expr.IsNull e negative)

  pub fold-Count : (f : Fold) → fold-Expr A step (Aggregate f None) ≡ step (open_expr.Aggregate f None)
  fold-Count f = ap (fold-Expr A step) (sym (rolls-Aggregate f None)) ∙ fold-roll-Expr A step (open_expr.Aggregate f None)

  pub fold-Aggregate : (f : Fold) (e : Expr) → fold-Expr A step (Aggregate f (Some e)) ≡ step (open_expr.Aggregate f (Some (fold-Expr A step e)))
  fold-Aggregate f e = ap (fold-Expr A step) (sym (rolls-Aggregate f (Some e))) ∙ fold-roll-Expr A step (open_expr.Aggregate f (Some e))
