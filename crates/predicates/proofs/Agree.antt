-- Two environments that agree on an expression's names give it the same meaning.
use Rattle.std.proofs.Common.{◌≡◌, List, [], ◌∷◌, ◌++◌, refl, sym, ap, ◌∙◌, subst}
use Rattle.std.specs.Prelude.{Some, None}
use Rattle.std.specs.List.{AllByRecursion}
use Rattle.sql_model.specs.declared.expr.ColumnName.{ColumnName}
use Rattle.sql_model.specs.declared.expr.Expr.{Expr}
use Rattle.sql_model.specs.declared.expr.Expr.TheFolds.{fold-roll-Expr, ind-Expr, map-Expr}
use Rattle.sql_model.specs.declared.expr.Expr.TheOpen as open_expr
use Rattle.sql_model.specs.declared.expr.Expr.TheOpen.{Expr-F}
use Rattle.sql_model.specs.declared.expr.Expr.TheViews.{roll-Expr}
use Rattle.sql_model.specs.Kinds.{names_in, names_step}
use Rattle.sql_model.specs.Meaning.{Environment, Meaning, of_value, of_truth, eval, eval_step, both, negation_of, truth_not, null_test, aggregate_of, known_values}

module _ (a b : Environment) where
  abbrev pub Agree : List ColumnName → Type 0
  Agree names = AllByRecursion (λ c. a c ≡ b c) names

  front : (xs ys : List ColumnName) → Agree (xs ++ ys) → Agree xs
  front [] ys h = tt
  front (x ∷ xs) ys h = (h.0, front xs ys h.1)

  back : (xs ys : List ColumnName) → Agree (xs ++ ys) → Agree ys
  back [] ys h = h
  back (x ∷ xs) ys h = back xs ys h.1

  abbrev pub IsAlike : Expr → Type 0
  IsAlike e = Agree (names_in e) → eval e (a ∷ []) ≡ eval e (b ∷ [])

  abbrev Such : Type 0
  Such = (e : Expr) × IsAlike e

  abbrev inside : Expr-F Such → Expr-F Expr
  inside y = map-Expr Such Expr (λ e. e.0) y

  layer : (x : Expr-F Expr)
      → (Agree (names_step (map-Expr Expr (List ColumnName) names_in x)) → eval_step (map-Expr Expr (List Environment → Meaning) eval x) (a ∷ []) ≡ eval_step (map-Expr Expr (List Environment → Meaning) eval x) (b ∷ []))
      → IsAlike (roll-Expr x)
  layer x key = λ h.
      (λ j. fold-roll-Expr (List Environment → Meaning) eval_step x j (a ∷ []))
      ∙ key (subst Agree (fold-roll-Expr (List ColumnName) names_step x) h)
      ∙ sym (λ j. fold-roll-Expr (List Environment → Meaning) eval_step x j (b ∷ []))

  step : (y : Expr-F Such) → IsAlike (roll-Expr (inside y))
  step (open_expr.Constant v) = layer (open_expr.Constant v) (λ h. refl)
  step (open_expr.Column c) = layer (open_expr.Column c) (λ h. ap of_value h.0)
  step (open_expr.Negate e) = layer (open_expr.Negate e.0) (λ h. ap (λ (s : Meaning). of_value (negation_of s.value)) (e.1 h))
  step (open_expr.Not e) = layer (open_expr.Not e.0) (λ h. ap (λ (s : Meaning). of_truth (truth_not s.truth)) (e.1 h))
  step (open_expr.Both op l r) = layer (open_expr.Both op l.0 r.0) (λ h. λ j. both op (l.1 (front (names_in l.0) (names_in r.0) h) j) (r.1 (back (names_in l.0) (names_in r.0) h) j))
  step (open_expr.IsNull e negative) = layer (open_expr.IsNull e.0 negative) (λ h. ap (λ (s : Meaning). of_truth (null_test negative s.value)) (e.1 h))
  step (open_expr.Aggregate f None) = layer (open_expr.Aggregate f None) (λ h. refl)
  step (open_expr.Aggregate f (Some e)) = layer (open_expr.Aggregate f (Some e.0)) (λ h. ap (λ (s : Meaning). of_value (aggregate_of f (known_values (s.value ∷ [])))) (e.1 h))

  pub alike : (e : Expr) → IsAlike e
  alike = ind-Expr IsAlike (λ x y is. subst (λ (z : Expr-F Expr). IsAlike (roll-Expr z)) is (step y))
