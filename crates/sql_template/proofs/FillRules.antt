-- What filling makes of each form of expression.
use Rattle.std.proofs.Common.{◌≡◌, sym}
use Rattle.std.specs.Prelude.{Bool, Some, None}
use Rattle.sql_template.specs.Filling.{fill_step, filled_expr}
use Rattle.sql_template.specs.Types.{Value, Expr, Fold, Operator}
use Rattle.sql_model.specs.declared.expr.ColumnName.{ColumnName}
use Rattle.sql_model.specs.declared.expr.Expr.TheVariants.{Constant, Column, Negate, Not, Both, IsNull, Aggregate}
use Rattle.sql_model.proofs.Folds.{fold-Constant, fold-Column, fold-Negate, fold-Not, fold-Both, fold-IsNull, fold-Count, fold-Aggregate}

module _ (f : Value → Value) where
  pub fill_constant : (v : Value) → filled_expr f (Constant v) ≡ Constant (f v)
  fill_constant v = fold-Constant (fill_step f) v

  pub fill_column : (c : ColumnName) → filled_expr f (Column c) ≡ Column c
  fill_column c = fold-Column (fill_step f) c

  pub fill_negate : (e : Expr) → filled_expr f (Negate e) ≡ Negate (filled_expr f e)
  fill_negate e = fold-Negate (fill_step f) e

  pub fill_not : (e : Expr) → filled_expr f (Not e) ≡ Not (filled_expr f e)
  fill_not e = fold-Not (fill_step f) e

  pub fill_both : (op : Operator) (a b : Expr) → filled_expr f (Both op a b) ≡ Both op (filled_expr f a) (filled_expr f b)
  fill_both op a b = fold-Both (fill_step f) op a b

  pub fill_is_null : (e : Expr) (negative : Bool) → filled_expr f (IsNull e negative) ≡ IsNull (filled_expr f e) negative
  fill_is_null e negative = fold-IsNull (fill_step f) e negative

  pub fill_count : (g : Fold) → filled_expr f (Aggregate g None) ≡ Aggregate g None
  fill_count g = fold-Count (fill_step f) g

  pub fill_aggregate : (g : Fold) (e : Expr) → filled_expr f (Aggregate g (Some e)) ≡ Aggregate g (Some (filled_expr f e))
  fill_aggregate g e = fold-Aggregate (fill_step f) g e

pub ruleset fill_rules = (fill_constant, fill_column, fill_negate, fill_not, fill_both, fill_is_null, fill_count, fill_aggregate)
