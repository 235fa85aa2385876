-- Conjuncts.
use Rattle.std.proofs.Common.{◌≡◌, ◌∙◌, sym, ap, subst, refl, ℕ, ◌&&◌, List, [], ◌∷◌, ◌++◌, append-nil}
use Rattle.std.specs.List.{flat_map}
use Rattle.ldv_value.proofs.Booleans.{and-assoc, and-true}
use Rattle.predicates.proofs.Places.{places-append, placed-front, others-front, placed-more}
use Rattle.predicates.specs.Conditions.{Adds, AreConditions, meets}
use Rattle.predicates.specs.Placing.{own_places, other_places, AreAllPlaced}
use Rattle.predicates.specs.Types.{Truth, True, False, Unknown, And, Expr, Operator, Value}
use Rattle.predicates.specs.declared.placed.BoundExpr.{BoundExpr}
use Rattle.sql_model.proofs.Folds.{fold-Both}
use Rattle.sql_model.specs.Kinds.{names_in, names_step}
use Rattle.sql_model.specs.Meaning.{Environment, Meaning, eval_step, is_true, truth, truth_and}
use Rattle.sql_model.specs.QueryAnswer.{meets_all}
use Rattle.sql_model.specs.Scope.{InScope, environment, places_in}
use Rattle.sql_model.specs.declared.expr.Expr.TheVariants.{Both}

both-true : (a b : Truth) → is_true (truth_and a b) ≡ (is_true a && is_true b)
both-true True b = refl
both-true False b = refl
both-true Unknown True = refl
both-true Unknown False = refl
both-true Unknown Unknown = refl

-- a conjunction is True where both sides are
conjunction : (a b : Expr) (env : Environment) → is_true (truth (Both And a b) env) ≡ (is_true (truth a env) && is_true (truth b env))
conjunction a b env =
    ap (λ (f : List Environment → Meaning). is_true (f (env ∷ [])).truth) (fold-Both eval_step And a b)
    ∙ both-true (truth a env) (truth b env)

meets-more : (scope : List InScope) (old : List BoundExpr) (placed : BoundExpr) (values : List Value)
    → meets scope (old ++ placed ∷ []) values ≡ (meets scope old values && is_true (truth placed.expr (environment scope values)))
meets-more scope [] placed values = and-true (is_true (truth placed.expr (environment scope values)))
meets-more scope (c ∷ old) placed values =
    ap (λ b. is_true (truth c.expr (environment scope values)) && b) (meets-more scope old placed values)
    ∙ sym (and-assoc (is_true (truth c.expr (environment scope values))) (meets scope old values) (is_true (truth placed.expr (environment scope values))))

-- a condition as it is
pub added-one : (old new : List BoundExpr) (expr : Expr) (places left : List ℕ) (placed : BoundExpr) → placed.expr ≡ expr → placed.places ≡ own_places expr places
    → left ≡ other_places expr places → new ≡ old ++ placed ∷ [] → Adds old expr places new left
added-one old new expr places left placed same own others is scope more at = (
  others-front scope expr places more left at others,
  (λ all. subst (AreAllPlaced scope) (sym is) (placed-more scope old placed all (placed-front scope expr places more placed at same own))),
  (λ values. ap (λ (cs : List BoundExpr). meets scope cs values) is ∙ meets-more scope old placed values
      ∙ ap (λ (e : Expr). meets scope old values && is_true (truth e (environment scope values))) same),
)

-- both sides of a conjunction
pub added-both : (old mid new : List BoundExpr) (op : Operator) (a b expr : Expr) (places after left : List ℕ) → expr ≡ Both op a b → op ≡ And
    → Adds old a places mid after → Adds mid b after new left → Adds old expr places new left
added-both old mid new op a b expr places after left is conj first second scope more at =
    let whole : expr ≡ Both And a b = is ∙ ap (λ o. Both o a b) conj in
    let names : names_in expr ≡ names_in a ++ names_in b = ap names_in whole ∙ fold-Both names_step And a b in
    let split : places ≡ places_in scope (names_in a) ++ (places_in scope (names_in b) ++ more) =
    at ∙ ap (λ ns. places_in scope ns ++ more) names ∙ places-append scope (names_in a) (names_in b) more in
    let one = first scope (places_in scope (names_in b) ++ more) split in
    let two = second scope more one.0 in (
      two.0,
      (λ all. two.1 (one.1 all)),
      (λ values.
          two.2 values
          ∙ ap (λ x. x && is_true (truth b (environment scope values))) (one.2 values)
          ∙ and-assoc (meets scope old values) (is_true (truth a (environment scope values))) (is_true (truth b (environment scope values)))
          ∙ ap (λ x. meets scope old values && x) (sym (ap (λ (e : Expr). is_true (truth e (environment scope values))) whole ∙ conjunction a b (environment scope values)))),
    )

-- one condition more of those that are left
pub more-conditions : (scope : List InScope) (conds new : List BoundExpr) (pick : Expr) (rest : List Expr) (places left more : List ℕ)
    → Adds conds pick places new left → places ≡ places_in scope (flat_map names_in (pick ∷ rest)) ++ more → AreAllPlaced scope conds
    → (left ≡ places_in scope (flat_map names_in rest) ++ more)
    × AreAllPlaced scope new
    × ((values : List Value) → (meets scope new values && meets_all rest (environment scope values)) ≡ (meets scope conds values && meets_all (pick ∷ rest) (environment scope values)))
more-conditions scope conds new pick rest places left more adds is all =
    let one = adds scope (places_in scope (flat_map names_in rest) ++ more) (is ∙ places-append scope (names_in pick) (flat_map names_in rest) more) in (
      one.0,
      one.1 all,
      (λ values. ap (λ b. b && meets_all rest (environment scope values)) (one.2 values)
          ∙ and-assoc (meets scope conds values) (is_true (truth pick (environment scope values))) (meets_all rest (environment scope values))),
    )

-- one condition, of which the places are given
pub one-condition : (conds : List BoundExpr) (pick : Expr) (places left : List ℕ) → Adds [] pick places conds left → (scope : List InScope) → places ≡ places_in scope (names_in pick)
    → AreConditions scope (pick ∷ []) conds
one-condition conds pick places left adds scope is =
    let one = adds scope [] (is ∙ sym (append-nil (places_in scope (names_in pick)))) in record {
      placed = one.1 tt;
      same = λ values. one.2 values ∙ sym (and-true (is_true (truth pick (environment scope values))));
    }
