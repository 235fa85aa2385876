-- Expressions over a group whose aggregates are constants, form by form.
use Rattle.std.proofs.Common.{◌≡◌, ◌∙◌, sym, ap, subst, refl, ℕ, List, [], ◌∷◌, ◌++◌, map, length, take, drop, append_assoc, append-nil}
use Rattle.std.specs.Prelude.{Some, None, Bool, pos, Result, Ok, Err, IfOk}
use Rattle.std.proofs.lemmas.List.{map-append, length-map}
use Rattle.std.proofs.lemmas.Simd.{map-map}
use Rattle.lineage.specs.declared.answer.Pick.{Pick}
use Rattle.predicates.proofs.Lists.{take-mapped, drop-mapped}
use Rattle.predicates.proofs.Places.{places-append}
use Rattle.group_eval.specs.inner.Folding.{first_row, pick_environment, pick_environments, value_over}
use Rattle.group_eval.specs.inner.Folding.{group_meaning}
use Rattle.predicates.specs.Placing.{own_places, other_places, IsPlaced}
use Rattle.group_eval.specs.inner.BoundAggregates.{BindsTo, first_meaning, IsBound}
use Rattle.group_eval.specs.Types.{ColumnName, Expr, Fold, Operator, Value}
use Rattle.predicates.specs.declared.placed.BoundExpr.{BoundExpr}
use Rattle.sql_model.proofs.Folds.{fold-Constant, fold-Column, fold-Negate, fold-Not, fold-Both, fold-IsNull, fold-Count, fold-Aggregate}
use Rattle.sql_model.specs.Kinds.{names_in, names_step}
use Rattle.sql_model.specs.Meaning.{Environment, Meaning, of_value, of_truth, eval, eval_step, both, negation_of, truth_not, null_test, aggregate_of, known_values, number_value, in_first}
use Rattle.sql_model.specs.Scope.{InScope, place_of, places_in, environment}
use Rattle.sql_model.specs.declared.expr.Expr.TheVariants.{Constant, Column, Negate, Not, Both, IsNull, Aggregate}

module _ (picks : List Pick) where
  abbrev first : List InScope → List Environment
  first scope = environment scope (first_row picks) ∷ []

  abbrev all : List InScope → List Environment
  all scope = pick_environments scope picks

  -- the same of equal expressions
  pub as_forms : (e f s t : Expr) (l own new left : List ℕ) → e ≡ f → s ≡ t → BindsTo picks f l own t new left → BindsTo picks e l own s new left
  as_forms e f s t l own new left is made h =
      subst (λ (x : Expr). BindsTo picks e l own x new left) (sym made) (subst (λ (x : Expr). BindsTo picks x l own t new left) (sym is) h)

  pub settle-Constant : (v : Value) (l own : List ℕ) → BindsTo picks (Constant v) l own (Constant v) own l
  settle-Constant v l own scope more is = (
    is ∙ ap (λ ns. places_in scope ns ++ more) (fold-Constant names_step v),
    sym (ap (λ ns. own ++ places_in scope ns) (fold-Constant names_step v) ∙ append-nil own),
    (λ j. fold-Constant eval_step v j (first scope)) ∙ sym (λ j. fold-Constant eval_step v j (all scope)),
  )

  column : (ps : List Pick) (scope : List InScope) (c : ColumnName) → of_value (environment scope (first_row ps) c) ≡ of_value (in_first (pick_environments scope ps) c)
  column [] scope c = refl
  column (p ∷ ps) scope c = refl

  pub column_first : (scope : List InScope) (c : ColumnName) → first_meaning scope picks (Column c) ≡ group_meaning scope picks (Column c)
  column_first scope c = (λ j. fold-Column eval_step c j (first scope)) ∙ column picks scope c ∙ sym (λ j. fold-Column eval_step c j (all scope))

  pub settle-Column : (c : ColumnName) (l own new left : List ℕ) → new ≡ own ++ take 1 l → left ≡ drop 1 l → BindsTo picks (Column c) l own (Column c) new left
  settle-Column c l own new left made rest scope more is =
      let here : l ≡ place_of scope c ∷ more = is ∙ ap (λ ns. places_in scope ns ++ more) (fold-Column names_step c) in (
        rest ∙ ap (drop 1) here,
        made ∙ ap (λ x. own ++ take 1 x) here ∙ sym (ap (λ ns. own ++ places_in scope ns) (fold-Column names_step c)),
        column_first scope c,
      )

  pub settle-Negate : (e s : Expr) (l own new left : List ℕ) → BindsTo picks e l own s new left → BindsTo picks (Negate e) l own (Negate s) new left
  settle-Negate e s l own new left h scope more is =
      let inner = h scope more (is ∙ ap (λ ns. places_in scope ns ++ more) (fold-Negate names_step e)) in (
        inner.0,
        inner.1 ∙ sym (ap (λ ns. own ++ places_in scope ns) (fold-Negate names_step s)),
        (λ j. fold-Negate eval_step s j (first scope)) ∙ ap (λ (m : Meaning). of_value (negation_of m.value)) inner.2 ∙ sym (λ j. fold-Negate eval_step e j (all scope)),
      )

  pub settle-Not : (e s : Expr) (l own new left : List ℕ) → BindsTo picks e l own s new left → BindsTo picks (Not e) l own (Not s) new left
  settle-Not e s l own new left h scope more is =
      let inner = h scope more (is ∙ ap (λ ns. places_in scope ns ++ more) (fold-Not names_step e)) in (
        inner.0,
        inner.1 ∙ sym (ap (λ ns. own ++ places_in scope ns) (fold-Not names_step s)),
        (λ j. fold-Not eval_step s j (first scope)) ∙ ap (λ (m : Meaning). of_truth (truth_not m.truth)) inner.2 ∙ sym (λ j. fold-Not eval_step e j (all scope)),
      )

  pub settle-IsNull : (e s : Expr) (negative : Bool) (l own new left : List ℕ) → BindsTo picks e l own s new left → BindsTo picks (IsNull e negative) l own (IsNull s negative) new left
  settle-IsNull e s negative l own new left h scope more is =
      let inner = h scope more (is ∙ ap (λ ns. places_in scope ns ++ more) (fold-IsNull names_step e negative)) in (
        inner.0,
        inner.1 ∙ sym (ap (λ ns. own ++ places_in scope ns) (fold-IsNull names_step s negative)),
        (λ j. fold-IsNull eval_step s negative j (first scope)) ∙ ap (λ (m : Meaning). of_truth (null_test negative m.value)) inner.2 ∙ sym (λ j. fold-IsNull eval_step e negative j (all scope)),
      )

  pub settle-Both : (op : Operator) (a b s t : Expr) (l own mid after new left : List ℕ) → BindsTo picks a l own s mid after → BindsTo picks b after mid t new left
      → BindsTo picks (Both op a b) l own (Both op s t) new left
  settle-Both op a b s t l own mid after new left begun ended scope more is =
      let split : l ≡ places_in scope (names_in a) ++ (places_in scope (names_in b) ++ more) =
      is ∙ ap (λ ns. places_in scope ns ++ more) (fold-Both names_step op a b) ∙ places-append scope (names_in a) (names_in b) more in
      let left-side = begun scope (places_in scope (names_in b) ++ more) split in
      let right-side = ended scope more left-side.0 in (
        right-side.0,
        right-side.1
            ∙ ap (λ x. x ++ places_in scope (names_in t)) left-side.1
            ∙ append_assoc own (places_in scope (names_in s)) (places_in scope (names_in t))
            ∙ ap (λ x. own ++ x) (sym (map-append (place_of scope) (names_in s) (names_in t)))
            ∙ sym (ap (λ ns. own ++ places_in scope ns) (fold-Both names_step op s t)),
        (λ j. fold-Both eval_step op s t j (first scope))
            ∙ (λ j. both op (left-side.2 j) (right-side.2 j))
            ∙ sym (λ j. fold-Both eval_step op a b j (all scope)),
      )

  pub settle-Count : (f : Fold) (v : Value) (l own : List ℕ) → v ≡ number_value (pos (length picks)) → BindsTo picks (Aggregate f None) l own (Constant v) own l
  settle-Count f v l own is-count scope more is = (
    is ∙ ap (λ ns. places_in scope ns ++ more) (fold-Count names_step f),
    sym (ap (λ ns. own ++ places_in scope ns) (fold-Constant names_step v) ∙ append-nil own),
    (λ j. fold-Constant eval_step v j (first scope))
        ∙ ap of_value (is-count ∙ ap (λ n. number_value (pos n)) (sym (length-map picks (pick_environment scope))))
        ∙ sym (λ j. fold-Count eval_step f j (all scope)),
  )

  pub settle-Aggregate : (f : Fold) (e : Expr) (v : Value) (l own taken left : List ℕ) → taken ≡ own_places e l → left ≡ other_places e l
      → ((scope : List InScope) → places_in scope (names_in e) ≡ taken → v ≡ aggregate_of f (known_values (map (value_over scope e) picks)))
      → BindsTo picks (Aggregate f (Some e)) l own (Constant v) own left
  settle-Aggregate f e v l own taken left at rest value scope more is =
      let here : l ≡ places_in scope (names_in e) ++ more = is ∙ ap (λ ns. places_in scope ns ++ more) (fold-Aggregate names_step f e) in
      let placed : places_in scope (names_in e) ≡ taken = sym (at ∙ ap (own_places e) here ∙ take-mapped (place_of scope) (names_in e) more) in (
        rest ∙ ap (other_places e) here ∙ drop-mapped (place_of scope) (names_in e) more,
        sym (ap (λ ns. own ++ places_in scope ns) (fold-Constant names_step v) ∙ append-nil own),
        (λ j. fold-Constant eval_step v j (first scope))
            ∙ ap of_value (value scope placed ∙ ap (λ (vs : List Value). aggregate_of f (known_values vs)) (sym (map-map (λ (env : Environment). (eval e (env ∷ [])).value) (pick_environment scope) picks)))
            ∙ sym (λ j. fold-Aggregate eval_step f e j (all scope)),
      )

  -- a placed expression and what it is bound to
  pub bound_is : (e : Expr) (bound : BoundExpr) (places left : List ℕ) → BindsTo picks e places [] bound.expr bound.places left
      → (scope : List InScope) → places_in scope (names_in e) ≡ places → IsBound scope picks e bound
  bound_is e bound places left h scope placed =
      let made = h scope [] (sym placed ∙ sym (append-nil (places_in scope (names_in e)))) in
      record { placed = sym made.1; same = made.2 }

-- what is read of a bound expression over the first row is read of the expression over the group
pub bound_read : {V E : Type 0} (reads : Meaning → V) (picks : List Pick) (placed bound : BoundExpr) (row : List Value) (read : Result V E) → row ≡ first_row picks
    → ((scope : List InScope) → IsPlaced scope placed → IsBound scope picks placed.expr bound)
    → IfOk read (λ v. (scope : List InScope) → IsPlaced scope bound → v ≡ reads (eval bound.expr (environment scope row ∷ [])))
    → IfOk read (λ v. (scope : List InScope) → IsPlaced scope placed → v ≡ reads (group_meaning scope picks placed.expr))
bound_read reads picks placed bound row (Ok v) is settles made = λ scope there.
    made scope (settles scope there).placed
    ∙ (λ j. reads (eval bound.expr (environment scope (is j) ∷ [])))
    ∙ ap reads (settles scope there).same
bound_read reads picks placed bound row (Err e) is settles made = tt
