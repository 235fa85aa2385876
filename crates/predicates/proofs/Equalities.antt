-- Comparisons of columns and constants.
use Rattle.std.proofs.Common.{◌≡◌, ◌∙◌, sym, ap, refl, ℕ, Bool, true, false, not, List, [], ◌∷◌, ◌++◌}
use Rattle.std.specs.Cmp.{eq_by_cmp_equiv}
use Rattle.predicates.specs.inner.Constants.{IsConstant}
use Rattle.predicates.specs.Equality.{equals}
use Rattle.predicates.specs.Placing.{IsPlaced}
use Rattle.predicates.specs.Types.{ColumnName, Compare, Expr, Null, Int, Text, Value}
use Rattle.predicates.specs.declared.placed.BoundExpr.{BoundExpr}
use Rattle.ldv_value.specs.Order.{truth_of_bool, test_of, order_total}
use Rattle.ldv_value.specs.declared.value.Cmp.{Cmp}
use Rattle.sql_model.proofs.Folds.{fold-Both, fold-Column, fold-IsNull}
use Rattle.sql_model.specs.Kinds.{names_in, names_step}
use Rattle.sql_model.specs.Meaning.{Environment, Meaning, eval, eval_step, is_null, is_true, null_test, truth}
use Rattle.sql_model.specs.Scope.{InScope, place_of, places_in}
use Rattle.sql_model.specs.declared.expr.Expr.TheVariants.{Both, Column, IsNull}

pub equals-turned : (a b : Value) → equals a b ≡ equals b a
equals-turned Null Null = refl
equals-turned Null (Int n) = refl
equals-turned Null (Text t) = refl
equals-turned (Int m) Null = refl
equals-turned (Int m) (Int n) = ap (λ b. is_true (truth_of_bool b)) ((eq_by_cmp_equiv order_total).symm (Int m) (Int n))
equals-turned (Int m) (Text t) = refl
equals-turned (Text s) Null = refl
equals-turned (Text s) (Int n) = refl
equals-turned (Text s) (Text t) = ap (λ b. is_true (truth_of_bool b)) ((eq_by_cmp_equiv order_total).symm (Text s) (Text t))

-- ---- what each side means

pub truth_of_bool-true : (b : Bool) → is_true (truth_of_bool b) ≡ b
truth_of_bool-true true = refl
truth_of_bool-true false = refl

-- whether a value is NULL, or isn't
abbrev pub is_null_as : Bool → Value → Bool
is_null_as false v = is_null v
is_null_as true v = not (is_null v)

truth-both : (test : Cmp) (left right : Expr) (env : Environment) → is_true (truth (Both (Compare test) left right) env) ≡ is_true (test_of test (eval left (env ∷ [])).value (eval right (env ∷ [])).value)
truth-both test left right env = ap (λ (f : List Environment → Meaning). is_true (f (env ∷ [])).truth) (fold-Both eval_step (Compare test) left right)

column-value : (name : ColumnName) (env : Environment) → (eval (Column name) (env ∷ [])).value ≡ env name
column-value name env = ap (λ (f : List Environment → Meaning). (f (env ∷ [])).value) (fold-Column eval_step name)

column-sides : (test : Cmp) (left right : Expr) (env : Environment) (a b : Value) → (eval left (env ∷ [])).value ≡ a → (eval right (env ∷ [])).value ≡ b
    → is_true (truth (Both (Compare test) left right) env) ≡ is_true (test_of test a b)
column-sides test left right env a b first second = truth-both test left right env ∙ (λ j. is_true (test_of test (first j) (second j)))

column-is : (expr : Expr) (name : ColumnName) (env : Environment) → expr ≡ Column name → (eval expr (env ∷ [])).value ≡ env name
column-is expr name env is = ap (λ (e : Expr). (eval e (env ∷ [])).value) is ∙ column-value name env

pub column-names : (expr : Expr) (name : ColumnName) → expr ≡ Column name → names_in expr ≡ name ∷ []
column-names expr name is = ap names_in is ∙ fold-Column names_step name

-- a column beside a constant: what it names, and where it is True
pub column-first : (test : Cmp) (left right : Expr) (name : ColumnName) (v : Value) → left ≡ Column name → IsConstant right v
    → (names_in (Both (Compare test) left right) ≡ name ∷ []) × ((env : Environment) → is_true (truth (Both (Compare test) left right) env) ≡ is_true (test_of test (env name) v))
column-first test left right name v first second = (
  fold-Both names_step (Compare test) left right ∙ (λ j. column-names left name first j ++ second.nameless j),
  (λ env. column-sides test left right env (env name) v (column-is left name env first) (second.same env)),
)

pub constant-first : (test : Cmp) (left right : Expr) (v : Value) (name : ColumnName) → IsConstant left v → right ≡ Column name
    → (names_in (Both (Compare test) left right) ≡ name ∷ []) × ((env : Environment) → is_true (truth (Both (Compare test) left right) env) ≡ is_true (test_of test v (env name)))
constant-first test left right v name first second = (
  fold-Both names_step (Compare test) left right ∙ (λ j. first.nameless j ++ column-names right name second j),
  (λ env. column-sides test left right env v (env name) (first.same env) (column-is right name env second)),
)

-- a column that is tested for NULL
null-true : (negative : Bool) (v : Value) → is_true (null_test negative v) ≡ is_null_as negative v
null-true false v = truth_of_bool-true (is_null v)
null-true true v = truth_of_bool-true (not (is_null v))

pub column-null : (inner : Expr) (negative : Bool) (name : ColumnName) → inner ≡ Column name
    → (names_in (IsNull inner negative) ≡ name ∷ []) × ((env : Environment) → is_true (truth (IsNull inner negative) env) ≡ is_null_as negative (env name))
column-null inner negative name is = (
  fold-IsNull names_step inner negative ∙ column-names inner name is,
  (λ env. ap (λ (f : List Environment → Meaning). is_true (f (env ∷ [])).truth) (fold-IsNull eval_step inner negative)
      ∙ ap (λ (v : Value). is_true (null_test negative v)) (column-is inner name env is)
      ∙ null-true negative (env name)),
)

-- the place of the only name is the first one
pub first-place : (scope : List InScope) (cond : BoundExpr) (name : ColumnName) (place : ℕ) (more : List ℕ) → names_in cond.expr ≡ name ∷ [] → IsPlaced scope cond → cond.places ≡ place ∷ more
    → place_of scope name ≡ place
first-place scope cond name place more names placed places =
    heads (place_of scope name) place [] more (sym (ap (places_in scope) names) ∙ placed ∙ places)
  where
    heads : (a b : ℕ) (xs ys : List ℕ) → a ∷ xs ≡ b ∷ ys → a ≡ b
    heads a b xs ys h = cc
