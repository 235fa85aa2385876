-- The steps of a FROM list from left to right, and their results.
use Rattle.std.specs.Prelude.{◌≡◌, ℕ, ◌+◌, ◌<◌, ◌⊎◌, List, [], ◌∷◌, ◌++◌, map, filter, length, Bool}
use Rattle.std.specs.Prelude.{true, false, not, ◌&&◌, nat_lt, Option, Some, None, option_and_then, option_map}
use Rattle.std.specs.List.{flat_map, list_all, AllByRecursion}
use Rattle.std.specs.Cmp.Lexicographic.{slice_cmp}
use Rattle.std.specs.Ordering.{ordering_then}
use Rattle.std.specs.declared.cmp.Ordering.{Ordering}
use Rattle.ldv_value.specs.Order.{order}
use Rattle.ldv_value.specs.declared.value.Cmp.TheVariants.{Eq}
use Rattle.predicates.specs.Conditions.{meets}
use Rattle.predicates.specs.Equality.{equals, is_equal_test}
use Rattle.predicates.specs.Placing.{IsPlaced, AreAllPlaced}
use Rattle.query_eval.specs.inner.Sources.{joined_row_values}
use Rattle.query_eval.specs.Types.{ColumnName, Operator, Add, Subtract, Multiply, Compare, And, Or}
use Rattle.query_eval.specs.Types.{Expr, Value, Null, Int, Text}
use Rattle.sql_model.specs.declared.expr.Expr.TheVariants.{Both, Column}
use Rattle.predicates.specs.declared.placed.BoundExpr.{BoundExpr}
use Rattle.query_eval.specs.declared.probe.Probe.{Probe}
use Rattle.query_eval.specs.declared.source.SourceRow.{SourceRow}
use Rattle.sql_model.specs.Meaning.{is_true, truth}
use Rattle.ldv_value.specs.Cells.{value_at}
use Rattle.sql_model.specs.Scope.{InScope, environment}

-- one row of each source, the first source turning slowest
abbrev pub combos : List (List SourceRow) → List (List SourceRow)
combos [] = [] ∷ []
combos (rows ∷ rest) = flat_map (λ row. map (λ others. row ∷ others) (combos rest)) rows

-- ---- conditions

abbrev pub tests : List InScope → List BoundExpr → List SourceRow → Bool
tests scope conds rows = meets scope conds (joined_row_values rows)

-- all columns are among the first n values
abbrev pub is_ready : ℕ → BoundExpr → Bool
is_ready n placed = list_all (λ place. nat_lt place n) placed.places

abbrev pub ready_conditions : ℕ → List BoundExpr → List BoundExpr
ready_conditions n conds = filter (is_ready n) conds

abbrev pub later_conditions : ℕ → List BoundExpr → List BoundExpr
later_conditions n conds = filter (λ c. not (is_ready n c)) conds

-- ---- prefixes

-- each prefix with each combination of what is left
abbrev pub products : List (List SourceRow) → List (List SourceRow) → List (List SourceRow)
products ps tables = flat_map (λ p. map (λ others. p ++ others) (combos tables)) ps

-- what remains to be had from prefixes
abbrev pub extensions_left : List InScope → List BoundExpr → List (List SourceRow) → List (List SourceRow)
    → List (List SourceRow)
extensions_left scope conds ps tables = filter (tests scope conds) (products ps tables)

-- the rows after one prefix that meet the conditions
abbrev pub extensions_of : List InScope → List BoundExpr → List SourceRow
    → List SourceRow → List (List SourceRow)
extensions_of scope conds p rows = filter (tests scope conds) (map (λ row. p ++ row ∷ []) rows)

abbrev pub extensions_of_all : List InScope → List BoundExpr → List (List SourceRow) → List SourceRow
    → List (List SourceRow)
extensions_of_all scope conds ps rows = flat_map (λ p. extensions_of scope conds p rows) ps

-- each has n values
abbrev pub EachHas : ℕ → List (List SourceRow) → Type 0
EachHas n ps = AllByRecursion (λ p. length (joined_row_values p) ≡ n) ps

-- ---- rows by the values of columns

-- the values that ties compare: of the rows before, and of the row itself
abbrev pub values_before : List Probe → List Value → List Value
values_before ties values = map (λ tie. value_at values tie.from) ties

abbrev pub values_here : List Probe → List Value → List Value
values_here ties values = map (λ tie. value_at values tie.place) ties

-- value by value; NULL equals nothing
abbrev pub are_all_equal : List Value → List Value → Bool
are_all_equal [] [] = true
are_all_equal [] (w ∷ ws) = false
are_all_equal (v ∷ vs) [] = false
are_all_equal (v ∷ vs) (w ∷ ws) = equals v w && are_all_equal vs ws

-- each tie holds between some rows and a row after them
abbrev pub are_tied : List Probe → List SourceRow → SourceRow → Bool
are_tied ties p row =
    are_all_equal (values_before ties (joined_row_values p)) (values_here ties row.values)

-- the rows of which the columns equal values
abbrev pub with_values : List Probe → List Value → List SourceRow → List SourceRow
with_values ties vs rows = filter (λ row. are_all_equal vs (values_here ties row.values)) rows

-- the condition is that a column of a row after n values equals a column before
abbrev pub IsProbeOf : BoundExpr → ℕ → Probe → Type 0
IsProbeOf placed n probe = (scope : List InScope) → IsPlaced scope placed
    → (p : List SourceRow) (row : SourceRow) → length (joined_row_values p) ≡ n
    → equals (value_at (joined_row_values p) probe.from) (value_at row.values probe.place)
    ≡ is_true (truth placed.expr (environment scope (joined_row_values (p ++ row ∷ []))))

-- conditions are ties, others, and those that are left, over a row after n values
abbrev pub AreTiesWith : List BoundExpr → ℕ → List Probe → List BoundExpr → List BoundExpr → Type 0
AreTiesWith conds n ties others left = (scope : List InScope) → AreAllPlaced scope conds
    → (AreAllPlaced scope others × AreAllPlaced scope left)
    × ((p : List SourceRow) (row : SourceRow) → length (joined_row_values p) ≡ n
    → tests scope conds (p ++ row ∷ [])
    ≡ (are_tied ties p row && (tests scope others (p ++ row ∷ []) && tests scope left (p ++ row ∷ []))))

abbrev pub AreTies : List BoundExpr → ℕ → List Probe → List BoundExpr → Type 0
AreTies conds n ties others = (scope : List InScope) → AreAllPlaced scope conds
    → AreAllPlaced scope others
    × ((p : List SourceRow) (row : SourceRow) → length (joined_row_values p) ≡ n
    → tests scope conds (p ++ row ∷ []) ≡ (are_tied ties p row && tests scope others (p ++ row ∷ [])))

-- each prefix with the rows that are looked up by it, for which the conditions are True
abbrev pub extensions_by_ties : List InScope → List BoundExpr → List Probe
    → List (List SourceRow) → List SourceRow
    → List (List SourceRow)
extensions_by_ties scope conds ties ps rows =
    flat_map (λ p. extensions_of scope conds p
    (with_values ties (values_before ties (joined_row_values p)) rows)) ps

abbrev pub is_equal_sign : Operator → Bool
is_equal_sign (Compare test) = is_equal_test test
is_equal_sign Add = false
is_equal_sign Subtract = false
is_equal_sign Multiply = false
is_equal_sign And = false
is_equal_sign Or = false

-- an equality of two columns
abbrev pub IsEquality : Expr → Type 0
IsEquality expr = (left : ColumnName) × (right : ColumnName)
    × (expr ≡ Both (Compare Eq) (Column left) (Column right))

-- the places of the two columns, where one is among the first n values and the other isn't
abbrev pub IsBetween : ℕ → ℕ → ℕ → Probe → Type 0
IsBetween a b n probe =
    ((probe.from ≡ a) × (a < n) × (n + probe.place ≡ b))
    ⊎ ((probe.from ≡ b) × (b < n) × (n + probe.place ≡ a))

-- ---- keys

-- a value that isn't NULL
abbrev pub non_null : Value → Option Value
non_null Null = None
non_null (Int n) = Some (Int n)
non_null (Text t) = Some (Text t)

-- values of which none is NULL
abbrev pub known_values : List Value → Option (List Value)
known_values [] = Some []
known_values (v ∷ vs) = option_and_then (λ w. option_map (λ ws. w ∷ ws) (known_values vs)) (non_null v)

-- a first value, and others
abbrev pub TieValues : Type 0
TieValues = Value × List Value

abbrev pub tie_order : TieValues → TieValues → Ordering
tie_order a b = ordering_then (order a.0 b.0) (slice_cmp order a.1 b.1)

-- the key of values of which none is NULL
abbrev pub key_of : List Value → Option TieValues
key_of [] = None
key_of (v ∷ vs) = option_and_then (λ w. option_map (λ ws. (w, ws)) (known_values vs)) (non_null v)
