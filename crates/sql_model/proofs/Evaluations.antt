-- An expression has the same meaning by places as by names.
use Rattle.std.proofs.Common.{◌≡◌, ℕ, List, [], ◌∷◌, ◌++◌, refl, sym, ap, ◌∙◌, subst, append_assoc, append-nil, drop}
use Rattle.std.specs.Prelude.{Some, None}
use Rattle.std.proofs.lemmas.List.{map-append}
use Rattle.sql_model.specs.Types.{Value, Truth, ColumnName, Expr, Expr-F}
use Rattle.sql_model.specs.declared.expr.Expr.TheFolds.{fold-roll-Expr, ind-Expr, map-Expr}
use Rattle.sql_model.specs.declared.expr.Expr.TheOpen as open_expr
use Rattle.sql_model.specs.declared.expr.Expr.TheViews.{roll-Expr}
use Rattle.sql_model.specs.Evaluation.{EvaluatedAt, eval_at, eval_at_step, evaluated_as, negate_at, not_at, IsValue, IsTruth}
use Rattle.sql_model.specs.Kinds.{names_in, names_step}
use Rattle.sql_model.specs.Scope.{InScope, places_in, place_of, environment}
use Rattle.sql_model.specs.Meaning.{Environment, Meaning, of_value, of_truth, eval, eval_step, both, null_test, aggregate_of, known_values}

module _ (row : List Value) (scope : List InScope) where
  abbrev env : List Environment
  env = environment scope row ∷ []

  abbrev IsEvalAt : Expr → Type 0
  IsEvalAt e = (more : List ℕ) → eval_at row e (places_in scope (names_in e) ++ more) ≡ evaluated_as (eval e env) more

  abbrev Such : Type 0
  Such = (e : Expr) × IsEvalAt e

  abbrev inside : Expr-F Such → Expr-F Expr
  inside y = map-Expr Such Expr (λ e. e.0) y

  split : (a b : List ColumnName) (more : List ℕ) → places_in scope (a ++ b) ++ more ≡ places_in scope a ++ (places_in scope b ++ more)
  split a b more = ap (λ l. l ++ more) (map-append (place_of scope) a b) ∙ append_assoc (places_in scope a) (places_in scope b) more

  -- by the next layer's equations
  layer : (x : Expr-F Expr) (more : List ℕ)
      → eval_at_step row (map-Expr Expr (List ℕ → EvaluatedAt) (eval_at row) x) (places_in scope (names_step (map-Expr Expr (List ColumnName) names_in x)) ++ more) ≡ evaluated_as (eval_step (map-Expr Expr (List Environment → Meaning) eval x) env) more
      → eval_at row (roll-Expr x) (places_in scope (names_in (roll-Expr x)) ++ more) ≡ evaluated_as (eval (roll-Expr x) env) more
  layer x more key =
      (λ j. fold-roll-Expr (List ℕ → EvaluatedAt) (eval_at_step row) x j (places_in scope (fold-roll-Expr (List ColumnName) names_step x j) ++ more))
      ∙ key ∙ sym (λ j. evaluated_as (fold-roll-Expr (List Environment → Meaning) eval_step x j env) more)

  step : (y : Expr-F Such) → IsEvalAt (roll-Expr (inside y))
  step (open_expr.Constant v) = λ more. layer (open_expr.Constant v) more refl
  step (open_expr.Column c) = λ more. layer (open_expr.Column c) more refl
  step (open_expr.Negate e) = λ more. layer (open_expr.Negate e.0) more (ap negate_at (e.1 more))
  step (open_expr.Not e) = λ more. layer (open_expr.Not e.0) more (ap not_at (e.1 more))
  step (open_expr.Both op a b) = λ more. layer (open_expr.Both op a.0 b.0) more
      (ap (λ (l : List ℕ). eval_at_step row (open_expr.Both op (eval_at row a.0) (eval_at row b.0)) l) (split (names_in a.0) (names_in b.0) more)
      ∙ ap (λ (p : EvaluatedAt). evaluated_as (both op p.meaning (eval_at row b.0 p.rest).meaning) (eval_at row b.0 p.rest).rest) (a.1 (places_in scope (names_in b.0) ++ more))
      ∙ ap (λ (p : EvaluatedAt). evaluated_as (both op (eval a.0 env) p.meaning) p.rest) (b.1 more))
  step (open_expr.IsNull e negative) = λ more. layer (open_expr.IsNull e.0 negative) more (ap (λ (p : EvaluatedAt). evaluated_as (of_truth (null_test negative p.meaning.value)) p.rest) (e.1 more))
  step (open_expr.Aggregate f None) = λ more. layer (open_expr.Aggregate f None) more refl
  step (open_expr.Aggregate f (Some e)) = λ more. layer (open_expr.Aggregate f (Some e.0)) more (ap (λ (p : EvaluatedAt). evaluated_as (of_value (aggregate_of f (known_values (p.meaning.value ∷ [])))) p.rest) (e.1 more))

  pub is_eval_at : (e : Expr) → IsEvalAt e
  is_eval_at = ind-Expr IsEvalAt (λ x y is. subst (λ (z : Expr-F Expr). IsEvalAt (roll-Expr z)) is (step y))

  eval_by_places : (e : Expr) (places : List ℕ) → places_in scope (names_in e) ≡ places → (eval_at row e places).meaning ≡ eval e env
  eval_by_places e places is =
      ap (λ (l : List ℕ). (eval_at row e l).meaning) (sym is ∙ sym (append-nil (places_in scope (names_in e))))
      ∙ ap (λ (p : EvaluatedAt). p.meaning) (is_eval_at e [])

pub value_by_places : (e : Expr) (row : List Value) (places : List ℕ) (v : Value) → v ≡ (eval_at row e (drop 0 places)).meaning.value → IsValue e row places v
value_by_places e row places v is = λ scope at. is ∙ ap (λ (s : Meaning). s.value) (eval_by_places row scope e places at)

pub truth_by_places : (e : Expr) (row : List Value) (places : List ℕ) (t : Truth) → t ≡ (eval_at row e (drop 0 places)).meaning.truth → IsTruth e row places t
truth_by_places e row places t is = λ scope at. is ∙ ap (λ (s : Meaning). s.truth) (eval_by_places row scope e places at)
