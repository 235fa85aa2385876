-- The meaning of an expression: its value and its truth over a group of rows.
--
-- An environment gives the value of each column that a name can mean in a row. An expression over one row is
-- taken over the group of that row alone. Over a group a column outside an aggregate has its value in the
-- first row, and an aggregate folds over the group. No expression fails: arithmetic over NULL or outside 64
-- bits is NULL. An expression of the kind TRUTH has a truth, and every other one has a value; nothing looks
-- at its other half.
use Rattle.std.specs.Prelude.{◌^◌, ℤ, pos, negsuc, ◌+ℤ◌, ◌-ℤ◌, ◌*ℤ◌, neg_ℤ, List, [], ◌∷◌, length, map}
use Rattle.std.specs.Prelude.{filter, Bool, true, false, not, nat_lt, if◌then◌else◌, Option, Some, None}
use Rattle.std.specs.List.{reduce}
use Rattle.std.specs.Ordering.{is_lt, is_gt}
use Rattle.sql_model.specs.Types.{Value, Null, Int, Text, Truth, True, False, Unknown, ColumnName, Operator}
use Rattle.sql_model.specs.Types.{Add, Subtract, Multiply, Compare, And, Or, Fold, Expr, Expr-F}
use Rattle.ldv_value.specs.Order.{order, test_of, truth_of_bool}
use Rattle.sql_model.specs.declared.expr.Fold.TheVariants.{Count, Sum, Min, Max}
use Rattle.sql_model.specs.declared.expr.Expr.TheOpen as open_expr
use Rattle.sql_model.specs.declared.expr.Expr.TheFolds.{fold-Expr}

abbrev pub Environment : Type 0
Environment = ColumnName → Value

pub record Meaning : Type 0 where
  pub value : Value
  pub truth : Truth

abbrev pub of_value : Value → Meaning
of_value v = record { value = v; truth = Unknown }

abbrev pub of_truth : Truth → Meaning
of_truth t = record { value = Null; truth = t }

-- a number within 64 bits, else NULL
abbrev pub number_value : ℤ → Value
number_value (pos n) = if nat_lt n (2 ^ 63) then Int (pos n) else Null
number_value (negsuc n) = if nat_lt n (2 ^ 63) then Int (negsuc n) else Null

abbrev pub with_numbers : (ℤ → ℤ → ℤ) → Value → Value → Value
with_numbers f Null b = Null
with_numbers f (Int m) Null = Null
with_numbers f (Int m) (Int n) = number_value (f m n)
with_numbers f (Int m) (Text t) = Null
with_numbers f (Text s) b = Null

abbrev pub negation_of : Value → Value
negation_of Null = Null
negation_of (Int n) = number_value (neg_ℤ n)
negation_of (Text t) = Null

-- three-valued logic
abbrev pub truth_not : Truth → Truth
truth_not True = False
truth_not False = True
truth_not Unknown = Unknown

abbrev pub truth_and : Truth → Truth → Truth
truth_and True b = b
truth_and False b = False
truth_and Unknown True = Unknown
truth_and Unknown False = False
truth_and Unknown Unknown = Unknown

abbrev pub truth_or : Truth → Truth → Truth
truth_or True b = True
truth_or False b = b
truth_or Unknown True = True
truth_or Unknown False = Unknown
truth_or Unknown Unknown = Unknown

abbrev pub is_null : Value → Bool
is_null Null = true
is_null (Int n) = false
is_null (Text t) = false

-- a comparison and a connective have a truth and no value
abbrev pub value_both : Operator → Value → Value → Value
value_both Add a b = with_numbers (λ m n. m +ℤ n) a b
value_both Subtract a b = with_numbers (λ m n. m -ℤ n) a b
value_both Multiply a b = with_numbers (λ m n. m *ℤ n) a b
value_both (Compare c) a b = Null
value_both And a b = Null
value_both Or a b = Null

-- arithmetic has a value and no truth
abbrev pub truth_both : Operator → Meaning → Meaning → Truth
truth_both Add a b = Unknown
truth_both Subtract a b = Unknown
truth_both Multiply a b = Unknown
truth_both (Compare c) a b = test_of c a.value b.value
truth_both And a b = truth_and a.truth b.truth
truth_both Or a b = truth_or a.truth b.truth

abbrev pub both : Operator → Meaning → Meaning → Meaning
both op a b = record { value = value_both op a.value b.value; truth = truth_both op a b }

-- IS NULL, or IS NOT NULL where the flag is set
abbrev pub null_test : Bool → Value → Truth
null_test false v = truth_of_bool (is_null v)
null_test true v = truth_of_bool (not (is_null v))

-- ---- aggregates

abbrev pub number_in : Value → ℤ
number_in Null = pos 0
number_in (Int n) = n
number_in (Text t) = pos 0

abbrev pub total : List Value → ℤ
total [] = pos 0
total (v ∷ vs) = number_in v +ℤ total vs

abbrev pub lesser_of : Value → Value → Value
lesser_of a b = if is_lt (order b a) then b else a

abbrev pub greater_of : Value → Value → Value
greater_of a b = if is_gt (order b a) then b else a

abbrev pub or_null : Option Value → Value
or_null None = Null
or_null (Some v) = v

-- over the values that aren't NULL: the exact count and the exact sum, NULL outside 64 bits
abbrev pub aggregate_of : Fold → List Value → Value
aggregate_of Count vs = number_value (pos (length vs))
aggregate_of Sum [] = Null
aggregate_of Sum (v ∷ vs) = number_value (total (v ∷ vs))
aggregate_of Min vs = or_null (reduce lesser_of vs)
aggregate_of Max vs = or_null (reduce greater_of vs)

abbrev pub known_values : List Value → List Value
known_values vs = filter (λ v. not (is_null v)) vs

-- COUNT(*) counts the rows
abbrev pub count_value : List Environment → Value
count_value group = number_value (pos (length group))

-- over one row
abbrev pub counted_one : Value
counted_one = Int (pos 1)

-- ---- expressions

abbrev pub in_first : List Environment → ColumnName → Value
in_first [] c = Null
in_first (env ∷ rest) c = env c

abbrev pub eval_step : Expr-F (List Environment → Meaning) → List Environment → Meaning
eval_step (open_expr.Constant v) group = of_value v
eval_step (open_expr.Column c) group = of_value (in_first group c)
eval_step (open_expr.Negate e) group = of_value (negation_of (e group).value)
eval_step (open_expr.Not e) group = of_truth (truth_not (e group).truth)
eval_step (open_expr.Both op a b) group = both op (a group) (b group)
eval_step (open_expr.IsNull e negative) group = of_truth (null_test negative (e group).value)
eval_step (open_expr.Aggregate f None) group = of_value (count_value group)
eval_step (open_expr.Aggregate f (Some e)) group =
    of_value (aggregate_of f (known_values (map (λ env. (e (env ∷ [])).value) group)))

abbrev pub eval : Expr → List Environment → Meaning
eval = fold-Expr (List Environment → Meaning) eval_step

-- over one row
abbrev pub truth : Expr → Environment → Truth
truth e env = (eval e (env ∷ [])).truth

abbrev pub is_true : Truth → Bool
is_true True = true
is_true False = false
is_true Unknown = false
