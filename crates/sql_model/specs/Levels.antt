-- How strongly each form of expressions binds.
--
-- The levels of expressions, from the weakest: OR 1, AND 2, NOT 3, comparisons and IS NULL 4, sums 5,
-- products 6, unary minus 7, and all else 8.
use Rattle.std.specs.Prelude.{ℕ}
use Rattle.sql_model.specs.declared.expr.Operator.{Operator}
use Rattle.sql_model.specs.declared.expr.Operator.TheVariants.{Add, Subtract, Multiply, Compare, And, Or}

-- the level of what an operator makes
abbrev pub operator_level : Operator → ℕ
operator_level Or = 1
operator_level And = 2
operator_level (Compare cmp) = 4
operator_level Add = 5
operator_level Subtract = 5
operator_level Multiply = 6

-- The least level of a left operand: operators associate to the left, and comparisons and IS NULL don't
-- associate.
abbrev pub operator_left : Operator → ℕ
operator_left Or = 1
operator_left And = 2
operator_left (Compare cmp) = 5
operator_left Add = 5
operator_left Subtract = 5
operator_left Multiply = 6

-- the least level of a right operand
abbrev pub right_of : Operator → ℕ
right_of Or = 2
right_of And = 3
right_of (Compare cmp) = 5
right_of Add = 6
right_of Subtract = 6
right_of Multiply = 7
