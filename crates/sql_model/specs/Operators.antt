-- The operators and other forms after an operand. Their levels are those of `Levels`.
use Rattle.std.specs.Prelude.{ℕ, List, [], ◌∷◌, Bool, ◌&&◌, nat_le, if◌then◌else◌, Option, Some, None, codes}
use Rattle.std.specs.Prelude.{nat_eq}
use Rattle.std.specs.Cmp.Lexicographic.{pointwise}
use Rattle.ldv_value.specs.declared.value.Cmp.{Cmp}
use Rattle.ldv_value.specs.declared.value.Cmp.TheVariants.{Eq, Ne, Lt, Le, Gt, Ge}
use Rattle.sql_model.specs.declared.expr.Operator.{Operator}
use Rattle.sql_model.specs.declared.expr.Operator.TheVariants.{Add, Subtract, Multiply, Compare, And, Or}
use Rattle.sql_model.specs.declared.reading.Infix.{Infix}
use Rattle.sql_model.specs.declared.reading.Infix.TheVariants.{Both, IsNull}
use Rattle.sql_model.specs.declared.token.Token.{Token}
use Rattle.sql_model.specs.declared.token.Token.TheVariants.{Word, Number, Quoted, Given}
use Rattle.sql_model.specs.Levels.{operator_level, operator_left}
use Rattle.ldv_value.specs.Options.{◌>>=◌, only_if}

abbrev pub comparison_of : List ℕ → Option Cmp
comparison_of w =
    if pointwise nat_eq w (codes "=") then Some Eq
    else if pointwise nat_eq w (codes "<>") then Some Ne
    else if pointwise nat_eq w (codes "!=") then Some Ne
    else if pointwise nat_eq w (codes "<") then Some Lt
    else if pointwise nat_eq w (codes "<=") then Some Le
    else if pointwise nat_eq w (codes ">") then Some Gt
    else if pointwise nat_eq w (codes ">=") then Some Ge
    else None

abbrev pub comparison_infix : List ℕ → Option Infix
comparison_infix w = comparison_of w >>= λ cmp. Some (Both (Compare cmp))

-- what the word or symbol is between operands
abbrev pub infix_in : List ℕ → Option Infix
infix_in w =
    if pointwise nat_eq w (codes "or") then Some (Both Or)
    else if pointwise nat_eq w (codes "and") then Some (Both And)
    else if pointwise nat_eq w (codes "is") then Some IsNull
    else if pointwise nat_eq w (codes "+") then Some (Both Add)
    else if pointwise nat_eq w (codes "-") then Some (Both Subtract)
    else if pointwise nat_eq w (codes "*") then Some (Both Multiply)
    else comparison_infix w

abbrev pub infix_of : List Token → Option Infix
infix_of [] = None
infix_of (Word w ∷ ts) = infix_in w
infix_of (Number z ∷ ts) = None
infix_of (Quoted t ∷ ts) = None
infix_of (Given v ∷ ts) = None

abbrev pub level_of : Infix → ℕ
level_of (Both op) = operator_level op
level_of IsNull = 4

abbrev pub left_of : Infix → ℕ
left_of (Both op) = operator_left op
left_of IsNull = 5

-- it may go on with an operand of this level, where a whole of at least the least level is read
abbrev pub may_join : ℕ → ℕ → Infix → Bool
may_join least level sign = nat_le least (level_of sign) && nat_le (left_of sign) level

abbrev pub joins : ℕ → ℕ → List Token → Option Infix
joins least level ts = infix_of ts >>= λ sign. only_if (may_join least level sign) (Some sign)
