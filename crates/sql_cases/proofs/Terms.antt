-- Terms: expressions over which a fold computes, and the equation between them and those of statements.
use Rattle.std.specs.Prelude.{Bool, Some, None}
use Rattle.std.proofs.Common.{◌≡◌, ap, ◌∙◌}
use Rattle.sql_cases.proofs.Types.{Value, ColumnName, Expr, Expr-F, Fold, Operator}
use Rattle.sql_model.specs.declared.expr.Expr.TheVariants as expr
use Rattle.sql_model.specs.declared.expr.Expr.TheOpen as open_expr
use Rattle.sql_model.specs.declared.expr.Expr.TheFolds.{fold-Expr}
use Rattle.sql_model.proofs.Folds.{fold-Constant, fold-Column, fold-Negate, fold-Not, fold-Both, fold-IsNull, fold-Count, fold-Aggregate}

pub data Term : Type 0 where
  Constant : Value → Term
  Column : ColumnName → Term
  Negate : Term → Term
  Not : Term → Term
  Both : Operator → Term → Term → Term
  IsNull : Term → Bool → Term
  Count : Fold → Term
  Aggregate : Fold → Term → Term

abbrev pub expr_of : Term → Expr
expr_of (Constant v) = expr.Constant v
expr_of (Column c) = expr.Column c
expr_of (Negate t) = expr.Negate (expr_of t)
expr_of (Not t) = expr.Not (expr_of t)
expr_of (Both op a b) = expr.Both op (expr_of a) (expr_of b)
expr_of (IsNull t negative) = expr.IsNull (expr_of t) negative
expr_of (Count f) = expr.Aggregate f None
expr_of (Aggregate f t) = expr.Aggregate f (Some (expr_of t))

abbrev pub over : (A : Type 0) → (Expr-F A → A) → Term → A
over A step (Constant v) = step (open_expr.Constant v)
over A step (Column c) = step (open_expr.Column c)
over A step (Negate t) = step (open_expr.Negate (over A step t))
over A step (Not t) = step (open_expr.Not (over A step t))
over A step (Both op a b) = step (open_expr.Both op (over A step a) (over A step b))
over A step (IsNull t negative) = step (open_expr.IsNull (over A step t) negative)
over A step (Count f) = step (open_expr.Aggregate f None)
over A step (Aggregate f t) = step (open_expr.Aggregate f (Some (over A step t)))

-- a fold over the expression is the one over the term
pub over_is : (A : Type 0) (step : Expr-F A → A) (t : Term) → fold-Expr A step (expr_of t) ≡ over A step t
over_is A step (Constant v) = fold-Constant step v
over_is A step (Column c) = fold-Column step c
over_is A step (Negate t) = fold-Negate step (expr_of t) ∙ ap (λ x. step (open_expr.Negate x))
    (over_is A step t)
over_is A step (Not t) = fold-Not step (expr_of t) ∙ ap (λ x. step (open_expr.Not x)) (over_is A step t)
over_is A step (Both op a b) = fold-Both step op (expr_of a) (expr_of b)
    ∙ (λ i. step (open_expr.Both op (over_is A step a i) (over_is A step b i)))
over_is A step (IsNull t negative) = fold-IsNull step (expr_of t) negative ∙ ap
    (λ x. step (open_expr.IsNull x negative)) (over_is A step t)
over_is A step (Count f) = fold-Count step f
over_is A step (Aggregate f t) = fold-Aggregate step f (expr_of t) ∙ ap
    (λ x. step (open_expr.Aggregate f (Some x))) (over_is A step t)

abbrev pub by_expr : (A : Type 0) → (Expr-F A → A) → Term → A
by_expr A step t = fold-Expr A step (expr_of t)

-- the same for all folds at once
pub folds_over : by_expr ≡ over
folds_over = λ i A step t. over_is A step t i
