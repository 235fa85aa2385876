-- The value of an expression is good if its constants and the values of its columns are.
use Rattle.std.proofs.Common.{◌≡◌, ℕ, suc, zero, ◌^◌, List, [], ◌∷◌, refl, sym, subst, Bool, true, false, w64}
use Rattle.std.specs.Prelude.{ℤ, pos, negsuc, neg_ℤ, ◌+ℤ◌, ◌-ℤ◌, ◌*ℤ◌, nat_lt, Some, None, map, fold, length, not, if◌then◌else◌, FitsSigned}
use Rattle.std.specs.List.{AllByRecursion, reduce}
use Rattle.std.specs.Ordering.{is_lt, is_gt}
use Rattle.std.proofs.lemmas.Bool.{ltb-true}
use Rattle.ldv_value.specs.Order.{order}
use Rattle.sql_model.specs.declared.expr.Expr.TheFolds.{fold-roll-Expr, ind-Expr, map-Expr}
use Rattle.sql_model.specs.declared.expr.Expr.TheOpen as open_expr
use Rattle.sql_model.specs.declared.expr.Expr.TheViews.{roll-Expr}
use Rattle.sql_model.specs.declared.expr.Fold.TheVariants as fold
use Rattle.ldv_value.specs.Cells.{value_at}
use Rattle.sql_model.specs.Scope.{InScope, place_of, environment}
use Rattle.sql_model.specs.Meaning.{Environment, Meaning, number_value, with_numbers, negation_of, value_both, or_null, lesser_of, greater_of, total, aggregate_of, known_values, is_null, in_first, eval_step, eval}
use Rattle.sql_laws.specs.Types.{Value, Null, Int, Text, ColumnName, Expr, Expr-F, Fold, Operator, Add, Subtract, Multiply, Compare, And, Or}
use Rattle.ldv_value.proofs.ItemLists.{all_filter}
use Rattle.value_laws.specs.Values.{GoodValue, GoodValues, constants_step, constants, GoodExpr}

-- ---- values

pub null_good : GoodValue Null
null_good = (tt, refl)

good_if : (b : Bool) (z : ℤ) → (b ≡ true → FitsSigned w64 z) → GoodValue (if b then Int z else Null)
good_if true z fits = (fits refl, refl)
good_if false z fits = null_good

number_good : (z : ℤ) → GoodValue (number_value z)
number_good (pos n) = good_if (nat_lt n (2 ^ 63)) (pos n) (λ is. record { sfits = ltb-true n (2 ^ 63) is })
number_good (negsuc n) = good_if (nat_lt n (2 ^ 63)) (negsuc n) (λ is. record { sfits = ltb-true n (2 ^ 63) is })

negated_good : (v : Value) → GoodValue (negation_of v)
negated_good Null = null_good
negated_good (Int n) = number_good (neg_ℤ n)
negated_good (Text t) = null_good

numbers_good : (f : ℤ → ℤ → ℤ) (a b : Value) → GoodValue (with_numbers f a b)
numbers_good f Null b = null_good
numbers_good f (Int m) Null = null_good
numbers_good f (Int m) (Int n) = number_good (f m n)
numbers_good f (Int m) (Text t) = null_good
numbers_good f (Text s) b = null_good

both_good : (op : Operator) (a b : Value) → GoodValue (value_both op a b)
both_good Add a b = numbers_good (λ m n. m +ℤ n) a b
both_good Subtract a b = numbers_good (λ m n. m -ℤ n) a b
both_good Multiply a b = numbers_good (λ m n. m *ℤ n) a b
both_good (Compare c) a b = null_good
both_good And a b = null_good
both_good Or a b = null_good

-- ---- aggregates

chosen : (b : Bool) (v w : Value) → GoodValue v → GoodValue w → GoodValue (if b then v else w)
chosen true v w first second = first
chosen false v w first second = second

lesser_good : (a b : Value) → GoodValue a → GoodValue b → GoodValue (lesser_of a b)
lesser_good a b first second = chosen (is_lt (order b a)) b a second first

greater_good : (a b : Value) → GoodValue a → GoodValue b → GoodValue (greater_of a b)
greater_good a b first second = chosen (is_gt (order b a)) b a second first

fold_good : (f : Value → Value → Value) → ((a b : Value) → GoodValue a → GoodValue b → GoodValue (f a b)) → (v : Value) (vs : List Value)
    → GoodValue v → GoodValues vs → GoodValue (fold f v vs)
fold_good f keeps v [] here all = here
fold_good f keeps v (w ∷ ws) here all = fold_good f keeps (f v w) ws (keeps v w here all.0) all.1

reduced_good : (f : Value → Value → Value) → ((a b : Value) → GoodValue a → GoodValue b → GoodValue (f a b)) → (vs : List Value)
    → GoodValues vs → GoodValue (or_null (reduce f vs))
reduced_good f keeps [] all = null_good
reduced_good f keeps (v ∷ vs) all = fold_good f keeps v vs all.0 all.1

folded_good : (f : Fold) (vs : List Value) → GoodValues vs → GoodValue (aggregate_of f vs)
folded_good fold.Count vs all = number_good (pos (length vs))
folded_good fold.Sum [] all = null_good
folded_good fold.Sum (v ∷ vs) all = number_good (total (v ∷ vs))
folded_good fold.Min vs all = reduced_good lesser_of lesser_good vs all
folded_good fold.Max vs all = reduced_good greater_of greater_good vs all

-- ---- rows as environments

abbrev pub GoodEnvironment : Environment → Type 0
GoodEnvironment env = (c : ColumnName) → GoodValue (env c)

abbrev pub GoodGroup : List Environment → Type 0
GoodGroup = AllByRecursion GoodEnvironment

pub value_at_good : (values : List Value) (place : ℕ) → GoodValues values → GoodValue (value_at values place)
value_at_good [] place all = null_good
value_at_good (v ∷ vs) zero all = all.0
value_at_good (v ∷ vs) (suc n) all = value_at_good vs n all.1

pub environment_good : (scope : List InScope) (values : List Value) → GoodValues values
    → GoodEnvironment (environment scope values)
environment_good scope values all c = value_at_good values (place_of scope c) all

column_good : (c : ColumnName) (group : List Environment) → GoodGroup group → GoodValue (in_first group c)
column_good c [] all = null_good
column_good c (env ∷ envs) all = all.0 c

-- ---- expressions

abbrev HasGood : Expr → Type 0
HasGood e = (group : List Environment) → GoodExpr e → GoodGroup group → GoodValue (eval e group).value

abbrev Such : Type 0
Such = (e : Expr) × HasGood e

abbrev inside : Expr-F Such → Expr-F Expr
inside y = map-Expr Such Expr (λ e. e.0) y

-- by the next layer's equations
layer : (x : Expr-F Expr)
    → ((group : List Environment) → GoodValues (constants_step (map-Expr Expr (List Value) constants x)) → GoodGroup group
    → GoodValue (eval_step (map-Expr Expr (List Environment → Meaning) eval x) group).value)
    → HasGood (roll-Expr x)
layer x key group good all =
    let parts : constants (roll-Expr x) ≡ constants_step (map-Expr Expr (List Value) constants x) = fold-roll-Expr (List Value) constants_step x in
    let value : (eval (roll-Expr x) group).value ≡ (eval_step (map-Expr Expr (List Environment → Meaning) eval x) group).value = λ j. (fold-roll-Expr (List Environment → Meaning) eval_step x j group).value in
    subst (λ (v : Value). GoodValue v) (sym value) (key group (subst (λ (vs : List Value). GoodValues vs) parts good) all)

values_good : (e : Expr) → HasGood e → GoodExpr e → (group : List Environment) → GoodGroup group
    → GoodValues (map (λ env. (eval e (env ∷ [])).value) group)
values_good e has good [] all = tt
values_good e has good (env ∷ envs) all = (has (env ∷ []) good (all.0, tt), values_good e has good envs all.1)

aggregate_good : (f : Fold) (e : Expr) → HasGood e → GoodExpr e → (group : List Environment) → GoodGroup group
    → GoodValue (aggregate_of f (known_values (map (λ env. (eval e (env ∷ [])).value) group)))
aggregate_good f e has good group all =
    let values : List Value = map (λ env. (eval e (env ∷ [])).value) group in
    folded_good f (known_values values) (all_filter GoodValue (λ v. not (is_null v)) values (values_good e has good group all))

step : (y : Expr-F Such) → HasGood (roll-Expr (inside y))
step (open_expr.Constant v) = layer (open_expr.Constant v) (λ group good all. good.0)
step (open_expr.Column c) = layer (open_expr.Column c) (λ group good all. column_good c group all)
step (open_expr.Negate e) = layer (open_expr.Negate e.0) (λ group good all. negated_good (eval e.0 group).value)
step (open_expr.Not e) = layer (open_expr.Not e.0) (λ group good all. null_good)
step (open_expr.Both op a b) = layer (open_expr.Both op a.0 b.0) (λ group good all. both_good op (eval a.0 group).value (eval b.0 group).value)
step (open_expr.IsNull e negative) = layer (open_expr.IsNull e.0 negative) (λ group good all. null_good)
step (open_expr.Aggregate f None) = layer (open_expr.Aggregate f None) (λ group good all. number_good (pos (length group)))
step (open_expr.Aggregate f (Some e)) = layer (open_expr.Aggregate f (Some e.0)) (λ group good all. aggregate_good f e.0 e.1 good group all)

pub eval_good : (e : Expr) (group : List Environment) → GoodExpr e → GoodGroup group → GoodValue (eval e group).value
eval_good = ind-Expr HasGood (λ x y is. subst (λ (z : Expr-F Expr). HasGood (roll-Expr z)) is (step y))
