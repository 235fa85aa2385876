-- Comparisons of columns.
use Rattle.std.specs.Prelude.{◌≡◌, Bool, true, false}
use Rattle.ldv_value.specs.Order.{test_of}
use Rattle.ldv_value.specs.declared.value.Cmp.{Cmp}
use Rattle.ldv_value.specs.declared.value.Cmp.TheVariants.{Eq, Ne, Lt, Le, Gt, Ge}
use Rattle.predicates.specs.Types.{ColumnName, Expr, Value}
use Rattle.sql_model.specs.Meaning.{is_true}
use Rattle.sql_model.specs.declared.expr.Expr.TheVariants.{Column}

-- `=` is True; NULL equals nothing
abbrev pub equals : Value → Value → Bool
equals a b = is_true (test_of Eq a b)

abbrev pub is_equal_test : Cmp → Bool
is_equal_test Eq = true
is_equal_test Ne = false
is_equal_test Lt = false
is_equal_test Le = false
is_equal_test Gt = false
is_equal_test Ge = false

abbrev pub IsColumn : Expr → Type 0
IsColumn expr = (name : ColumnName) × (expr ≡ Column name)
