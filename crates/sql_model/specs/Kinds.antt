-- The kind of an expression, or none if kinds clash inside it, and the columns that it names.
use Rattle.std.specs.Prelude.{ℕ, List, [], ◌∷◌, ◌++◌, find, Bool, true, false, ◌&&◌, ◌||◌, not, if◌then◌else◌}
use Rattle.std.specs.Prelude.{Option, Some, None, option_and_then, option_map}
use Rattle.sql_model.specs.Types.{Value, Null, Int, Text, ColumnName, Operator, Add, Subtract, Multiply}
use Rattle.sql_model.specs.Types.{Compare, And, Or, Fold, Expr, Expr-F, Kind, IntKind, TextKind, AnyKind}
use Rattle.sql_model.specs.Types.{TruthKind, Column}
use Rattle.sql_model.specs.declared.expr.Fold.TheVariants.{Count, Sum, Min, Max}
use Rattle.sql_model.specs.declared.expr.Expr.TheOpen as open_expr
use Rattle.sql_model.specs.declared.expr.Expr.TheFolds.{fold-Expr}
use Rattle.sql_model.specs.Scope.{InScope, is_meant}

abbrev pub kind_of_value : Value → Kind
kind_of_value Null = AnyKind
kind_of_value (Int n) = IntKind
kind_of_value (Text t) = TextKind

abbrev pub kind_of_column : Column → Kind
kind_of_column column = if column.text then TextKind else IntKind

abbrev pub is_number : Kind → Bool
is_number IntKind = true
is_number TextKind = false
is_number AnyKind = true
is_number TruthKind = false

abbrev pub is_logical : Kind → Bool
is_logical IntKind = false
is_logical TextKind = false
is_logical AnyKind = false
is_logical TruthKind = true

-- neither is a truth, and a number doesn't meet a text
abbrev pub are_comparable : Kind → Kind → Bool
are_comparable IntKind IntKind = true
are_comparable IntKind TextKind = false
are_comparable IntKind AnyKind = true
are_comparable IntKind TruthKind = false
are_comparable TextKind IntKind = false
are_comparable TextKind TextKind = true
are_comparable TextKind AnyKind = true
are_comparable TextKind TruthKind = false
are_comparable AnyKind IntKind = true
are_comparable AnyKind TextKind = true
are_comparable AnyKind AnyKind = true
are_comparable AnyKind TruthKind = false
are_comparable TruthKind b = false

abbrev pub kind_if : Bool → Kind → Option Kind
kind_if b k = if b then Some k else None

abbrev pub kind_both : Operator → Kind → Kind → Option Kind
kind_both Add a b = kind_if (is_number a && is_number b) IntKind
kind_both Subtract a b = kind_if (is_number a && is_number b) IntKind
kind_both Multiply a b = kind_if (is_number a && is_number b) IntKind
kind_both (Compare c) a b = kind_if (are_comparable a b) TruthKind
kind_both And a b = kind_if (is_logical a && is_logical b) TruthKind
kind_both Or a b = kind_if (is_logical a && is_logical b) TruthKind

-- of an aggregate, by the kind of its argument
abbrev pub folded_kind : Fold → Kind → Option Kind
folded_kind Count k = kind_if (not (is_logical k)) IntKind
folded_kind Sum k = kind_if (is_number k) IntKind
folded_kind Min k = kind_if (not (is_logical k)) k
folded_kind Max k = kind_if (not (is_logical k)) k

-- only COUNT may have no argument
abbrev pub counted_kind : Fold → Option Kind
counted_kind Count = Some IntKind
counted_kind Sum = None
counted_kind Min = None
counted_kind Max = None

-- over groups an aggregate is allowed, and its argument is over rows
abbrev pub kind_step : List InScope → Expr-F (Bool → Option Kind) → Bool → Option Kind
kind_step scope (open_expr.Constant v) over_groups = Some (kind_of_value v)
kind_step scope (open_expr.Column c) over_groups =
    option_map (λ entry. kind_of_column entry.column) (find (is_meant c) scope)
kind_step scope (open_expr.Negate e) over_groups =
    option_and_then (λ k. kind_if (is_number k) IntKind) (e over_groups)
kind_step scope (open_expr.Not e) over_groups =
    option_and_then (λ k. kind_if (is_logical k) TruthKind) (e over_groups)
kind_step scope (open_expr.Both op a b) over_groups =
    option_and_then (λ k. option_and_then (kind_both op k) (b over_groups)) (a over_groups)
kind_step scope (open_expr.IsNull e negative) over_groups =
    option_and_then (λ k. kind_if (not (is_logical k)) TruthKind) (e over_groups)
kind_step scope (open_expr.Aggregate f None) over_groups = if over_groups then counted_kind f else None
kind_step scope (open_expr.Aggregate f (Some e)) over_groups =
    if over_groups then option_and_then (folded_kind f) (e false) else None

abbrev pub kind : List InScope → Expr → Bool → Option Kind
kind scope = fold-Expr (Bool → Option Kind) (kind_step scope)

-- in WHERE, ON, SET and VALUES
abbrev pub row_kind : List InScope → Expr → Option Kind
row_kind scope e = kind scope e false

-- in an item and in HAVING
abbrev pub group_kind : List InScope → Expr → Option Kind
group_kind scope e = kind scope e true

abbrev pub is_condition : Option Kind → Bool
is_condition None = false
is_condition (Some k) = is_logical k

-- ---- values of a kind

-- a number, a text, or NULL, which every kind has; of a truth the value isn't looked at
abbrev pub is_of_kind : Kind → Value → Bool
is_of_kind IntKind Null = true
is_of_kind IntKind (Int n) = true
is_of_kind IntKind (Text t) = false
is_of_kind TextKind Null = true
is_of_kind TextKind (Int n) = false
is_of_kind TextKind (Text t) = true
is_of_kind AnyKind Null = true
is_of_kind AnyKind (Int n) = false
is_of_kind AnyKind (Text t) = false
is_of_kind TruthKind v = true

-- ---- names

abbrev pub names_step : Expr-F (List ColumnName) → List ColumnName
names_step (open_expr.Constant v) = []
names_step (open_expr.Column c) = c ∷ []
names_step (open_expr.Negate e) = e
names_step (open_expr.Not e) = e
names_step (open_expr.Both op a b) = a ++ b
names_step (open_expr.IsNull e negative) = e
names_step (open_expr.Aggregate f None) = []
names_step (open_expr.Aggregate f (Some e)) = e

-- the column names of an expression, left to right
abbrev pub names_in : Expr → List ColumnName
names_in = fold-Expr (List ColumnName) names_step

abbrev pub outer_step : Expr-F (List ColumnName) → List ColumnName
outer_step (open_expr.Constant v) = []
outer_step (open_expr.Column c) = c ∷ []
outer_step (open_expr.Negate e) = e
outer_step (open_expr.Not e) = e
outer_step (open_expr.Both op a b) = a ++ b
outer_step (open_expr.IsNull e negative) = e
outer_step (open_expr.Aggregate f e) = []

-- those outside its aggregates
abbrev pub outer_names : Expr → List ColumnName
outer_names = fold-Expr (List ColumnName) outer_step

-- ---- aggregates

abbrev pub aggregate_step : Expr-F Bool → Bool
aggregate_step (open_expr.Constant v) = false
aggregate_step (open_expr.Column c) = false
aggregate_step (open_expr.Negate e) = e
aggregate_step (open_expr.Not e) = e
aggregate_step (open_expr.Both op a b) = a || b
aggregate_step (open_expr.IsNull e negative) = e
aggregate_step (open_expr.Aggregate f e) = true

abbrev pub has_aggregate : Expr → Bool
has_aggregate = fold-Expr Bool aggregate_step

pub record CountUse : Type 0 where
  -- the expression names a column
  pub names_column : Bool
  -- it has a COUNT, or a SUM whose argument names no column
  pub counts_rows : Bool

abbrev pub count_use : Bool → Bool → CountUse
count_use names_column counts_rows = record { names_column = names_column; counts_rows = counts_rows }

-- an aggregate whose argument names a column, or doesn't
abbrev pub fold_counts : Fold → Bool → Bool
fold_counts Count names_column = true
fold_counts Sum names_column = not names_column
fold_counts Min names_column = false
fold_counts Max names_column = false

abbrev pub count_use_step : Expr-F CountUse → CountUse
count_use_step (open_expr.Constant v) = count_use false false
count_use_step (open_expr.Column c) = count_use true false
count_use_step (open_expr.Negate e) = e
count_use_step (open_expr.Not e) = e
count_use_step (open_expr.Both op a b) =
    count_use (a.names_column || b.names_column) (a.counts_rows || b.counts_rows)
count_use_step (open_expr.IsNull e negative) = e
count_use_step (open_expr.Aggregate f None) = count_use false true
count_use_step (open_expr.Aggregate f (Some e)) =
    count_use e.names_column (e.counts_rows || fold_counts f e.names_column)

abbrev pub count_use_of : Expr → CountUse
count_use_of = fold-Expr CountUse count_use_step

-- ---- the name of an answer column

abbrev pub own_name_step : Expr-F (Option (List ℕ)) → Option (List ℕ)
own_name_step (open_expr.Constant v) = None
own_name_step (open_expr.Column c) = Some c.name
own_name_step (open_expr.Negate e) = None
own_name_step (open_expr.Not e) = None
own_name_step (open_expr.Both op a b) = None
own_name_step (open_expr.IsNull e negative) = None
own_name_step (open_expr.Aggregate f e) = None

-- an expression that is a column has that column's name
abbrev pub own_name : Expr → Option (List ℕ)
own_name = fold-Expr (Option (List ℕ)) own_name_step
