-- Expressions that are columns, and aggregates, over a group.
use Rattle.std.proofs.Common.{◌≡◌, ◌∙◌, sym, ap, subst, refl, ℕ, List, [], ◌∷◌, map, length}
use Rattle.std.specs.Prelude.{Some, None, pos}
use Rattle.std.proofs.lemmas.List.{length-map}
use Rattle.std.proofs.lemmas.Simd.{map-map}
use Rattle.predicates.specs.Equality.{IsColumn}
use Rattle.predicates.specs.Placing.{IsPlaced}
use Rattle.predicates.specs.declared.placed.BoundExpr.{BoundExpr}
use Rattle.lineage.specs.declared.answer.Pick.{Pick}
use Rattle.group_eval.proofs.BoundLaws.{column_first}
use Rattle.group_eval.specs.inner.Columns.{value_in, IsValueAt}
use Rattle.group_eval.specs.inner.Folding.{pick_environment, pick_environments, value_over, group_meaning}
use Rattle.group_eval.specs.inner.BoundAggregates.{first_meaning, IsBound}
use Rattle.group_eval.specs.Types.{Expr, Fold, Value}
use Rattle.sql_model.proofs.Folds.{fold-Column, fold-Count, fold-Aggregate}
use Rattle.sql_model.specs.Kinds.{names_in, names_step}
use Rattle.sql_model.specs.Meaning.{Environment, eval, eval_step, aggregate_of, known_values, number_value}
use Rattle.ldv_value.specs.Cells.{value_at}
use Rattle.sql_model.specs.Scope.{InScope, place_of, places_in}
use Rattle.sql_model.specs.declared.expr.Expr.TheVariants.{Aggregate}

first_same : (x y : ℕ) (xs ys : List ℕ) → x ∷ xs ≡ y ∷ ys → x ≡ y
first_same x y xs ys is = cc

-- a column has its value at its place
pub column_at : (expr : Expr) (places : List ℕ) (place : ℕ) (more : List ℕ) → IsColumn expr → places ≡ place ∷ more → IsValueAt expr places place
column_at expr places place more (name, is) at scope placed pick =
    let names : places_in scope (names_in expr) ≡ place_of scope name ∷ [] =
    ap (λ (e : Expr). places_in scope (names_in e)) is ∙ ap (places_in scope) (fold-Column names_step name) in
    let here : place_of scope name ≡ place = first_same (place_of scope name) place [] more (sym names ∙ placed ∙ at) in
    ap (λ (e : Expr). value_over scope e pick) is
    ∙ (λ j. (fold-Column eval_step name j (pick_environment scope pick ∷ [])).value)
    ∙ ap (value_at pick.values) here

-- over each pick
pub values_at_place : (scope : List InScope) (expr : Expr) (place : ℕ) → ((pick : Pick) → value_over scope expr pick ≡ value_in place pick) → (picks : List Pick)
    → map (value_over scope expr) picks ≡ map (value_in place) picks
values_at_place scope expr place same [] = refl
values_at_place scope expr place same (pick ∷ picks) = λ j. same pick j ∷ values_at_place scope expr place same picks j

module _ (picks : List Pick) where
  -- a column means over the first row what it means over the group
  pub column_read : (placed : BoundExpr) → IsColumn placed.expr → (scope : List InScope) → IsPlaced scope placed → IsBound scope picks placed.expr placed
  column_read placed (name, is) scope at = record {
    placed = at;
    same = subst (λ (e : Expr). first_meaning scope picks e ≡ group_meaning scope picks e) (sym is) (column_first picks scope name);
  }

  -- COUNT(*)
  pub count_read : (f : Fold) (v : Value) (scope : List InScope) → v ≡ number_value (pos (length picks)) → v ≡ (group_meaning scope picks (Aggregate f None)).value
  count_read f v scope is =
      is
      ∙ ap (λ n. number_value (pos n)) (sym (length-map picks (pick_environment scope)))
      ∙ sym (λ j. (fold-Count eval_step f j (pick_environments scope picks)).value)

  -- an aggregate of an expression
  pub fold_read : (f : Fold) (e : Expr) (v : Value) (scope : List InScope) → v ≡ aggregate_of f (known_values (map (value_over scope e) picks))
      → v ≡ (group_meaning scope picks (Aggregate f (Some e))).value
  fold_read f e v scope is =
      is
      ∙ ap (λ (vs : List Value). aggregate_of f (known_values vs)) (sym (map-map (λ (env : Environment). (eval e (env ∷ [])).value) (pick_environment scope) picks))
      ∙ sym (λ j. (fold-Aggregate eval_step f e j (pick_environments scope picks)).value)
