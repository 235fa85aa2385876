-- The meaning of an expression over a row if its columns are given by places and not by names.
--
-- There is a place for each column name, from left to right: each name takes the next one.
use Rattle.std.specs.Prelude.{◌≡◌, ℕ, List, [], ◌∷◌, Some, None}
use Rattle.sql_model.specs.Types.{Truth, Value, Null, Expr, Expr-F}
use Rattle.sql_model.specs.declared.expr.Expr.TheOpen as open_expr
use Rattle.sql_model.specs.declared.expr.Expr.TheFolds.{fold-Expr}
use Rattle.sql_model.specs.Kinds.{names_in}
use Rattle.ldv_value.specs.Cells.{value_at}
use Rattle.sql_model.specs.Scope.{InScope, places_in, environment}
use Rattle.sql_model.specs.Meaning.{Meaning, of_value, of_truth, negation_of, truth_not, both, null_test}
use Rattle.sql_model.specs.Meaning.{counted_one, aggregate_of, known_values, eval}

-- what an expression means, and the places that it leaves
pub record EvaluatedAt : Type 0 where
  pub meaning : Meaning
  pub rest : List ℕ

abbrev pub evaluated_as : Meaning → List ℕ → EvaluatedAt
evaluated_as meaning rest = record { meaning = meaning; rest = rest }

abbrev pub first_value : List Value → List ℕ → Value
first_value row [] = Null
first_value row (place ∷ places) = value_at row place

abbrev pub other_places : List ℕ → List ℕ
other_places [] = []
other_places (place ∷ places) = places

abbrev pub column_at : List Value → List ℕ → EvaluatedAt
column_at row places = evaluated_as (of_value (first_value row places)) (other_places places)

abbrev pub negate_at : EvaluatedAt → EvaluatedAt
negate_at e = evaluated_as (of_value (negation_of e.meaning.value)) e.rest

abbrev pub not_at : EvaluatedAt → EvaluatedAt
not_at e = evaluated_as (of_truth (truth_not e.meaning.truth)) e.rest

-- the right operand takes the places that the left one leaves
abbrev pub eval_at_step : List Value → Expr-F (List ℕ → EvaluatedAt) → List ℕ → EvaluatedAt
eval_at_step row (open_expr.Constant v) places = evaluated_as (of_value v) places
eval_at_step row (open_expr.Column c) places = column_at row places
eval_at_step row (open_expr.Negate e) places = negate_at (e places)
eval_at_step row (open_expr.Not e) places = not_at (e places)
eval_at_step row (open_expr.Both op a b) places =
    evaluated_as (both op (a places).meaning (b (a places).rest).meaning) (b (a places).rest).rest
eval_at_step row (open_expr.IsNull e negative) places =
    evaluated_as (of_truth (null_test negative (e places).meaning.value)) (e places).rest
eval_at_step row (open_expr.Aggregate f None) places = evaluated_as (of_value counted_one) places
eval_at_step row (open_expr.Aggregate f (Some e)) places =
    evaluated_as (of_value (aggregate_of f (known_values ((e places).meaning.value ∷ [])))) (e places).rest

abbrev pub eval_at : List Value → Expr → List ℕ → EvaluatedAt
eval_at row = fold-Expr (List ℕ → EvaluatedAt) (eval_at_step row)

-- ---- what evaluation gives

-- the value, or the truth, in every scope that resolves the expression's columns to these places
abbrev pub IsValue : Expr → List Value → List ℕ → Value → Type 0
IsValue expr row places value =
    (scope : List InScope) → places_in scope (names_in expr) ≡ places
    → value ≡ (eval expr (environment scope row ∷ [])).value

abbrev pub IsTruth : Expr → List Value → List ℕ → Truth → Type 0
IsTruth expr row places truth =
    (scope : List InScope) → places_in scope (names_in expr) ≡ places
    → truth ≡ (eval expr (environment scope row ∷ [])).truth
