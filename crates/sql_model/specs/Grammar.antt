-- The expressions of SQL, as a relation between tokens and trees. It says how each form is written, and
-- nothing about how texts are read.
use Rattle.std.specs.Prelude.{◌≡◌, ◌⊎◌, ℕ, ◌+◌, ◌≤◌, max, List, [], ◌∷◌, ◌++◌, IsTrue, codes, Some, None}
use Rattle.std.specs.Prelude.{true, false}
use Prim.Native.String.{String}
use Rattle.ldv_value.specs.declared.value.Value.{Value}
use Rattle.ldv_value.specs.declared.value.Value.TheVariants as value
use Rattle.ldv_value.specs.declared.value.Cmp.TheVariants.{Eq, Ne, Lt, Le, Gt, Ge}
use Rattle.sql_model.specs.declared.expr.ColumnName.{ColumnName}
use Rattle.sql_model.specs.declared.expr.Expr.{Expr}
use Rattle.sql_model.specs.declared.expr.Expr.TheVariants as expr
use Rattle.sql_model.specs.declared.expr.Fold.{Fold}
use Rattle.sql_model.specs.declared.expr.Fold.TheVariants.{Count, Sum, Min, Max}
use Rattle.sql_model.specs.declared.expr.Operator.{Operator}
use Rattle.sql_model.specs.declared.expr.Operator.TheVariants.{Add, Subtract, Multiply, Compare, And, Or}
use Rattle.sql_model.specs.SqlNames.{sql_name_test}
use Rattle.sql_model.specs.declared.token.Token.{Token}
use Rattle.sql_model.specs.declared.token.Token.TheVariants.{Word, Number, Quoted, Given}
use Rattle.sql_model.specs.Levels.{operator_level, operator_left, right_of}

abbrev pub word : String → Token
word s = Word (codes s)

abbrev pub IsName : List ℕ → Type 0
IsName x = IsTrue (sql_name_test x)

-- how an operator is written
abbrev pub Writes : Operator → Token → Type 0
Writes Or t = t ≡ word "or"
Writes And t = t ≡ word "and"
Writes Add t = t ≡ word "+"
Writes Subtract t = t ≡ word "-"
Writes Multiply t = t ≡ word "*"
Writes (Compare Eq) t = t ≡ word "="
Writes (Compare Ne) t = (t ≡ word "<>") ⊎ (t ≡ word "!=")
Writes (Compare Lt) t = t ≡ word "<"
Writes (Compare Le) t = t ≡ word "<="
Writes (Compare Gt) t = t ≡ word ">"
Writes (Compare Ge) t = t ≡ word ">="

abbrev pub fold_word : Fold → Token
fold_word Count = word "count"
fold_word Sum = word "sum"
fold_word Min = word "min"
fold_word Max = word "max"

-- a constant as one token
abbrev pub IsConstant : Token → Value → Type 0
IsConstant (Word w) v = (w ≡ codes "null") × (v ≡ value.Null)
IsConstant (Number z) v = v ≡ value.Int z
IsConstant (Quoted t) v = v ≡ value.Text t
IsConstant (Given u) v = v ≡ u

abbrev pub IsColumn : List Token → ColumnName → Type 0
IsColumn ts c = ((ts ≡ Word c.name ∷ []) × (c.table ≡ None) × IsName c.name)
    ⊎ ((source : List ℕ) × (ts ≡ Word source ∷ word "." ∷ Word c.name ∷ []) × (c.table ≡ Some source)
    × IsName source × IsName c.name)

-- Tokens are an expression of this level and depth.
pub data IsExpr : ℕ → ℕ → List Token → Expr → Type 0 where
  AConstant : (t : Token) (v : Value) → IsConstant t v → IsExpr 8 1 (t ∷ []) (expr.Constant v)
  AColumn : (ts : List Token) (c : ColumnName) → IsColumn ts c → IsExpr 8 1 ts (expr.Column c)
  CountAll : IsExpr 8 1 (word "count" ∷ word "(" ∷ word "*" ∷ word ")" ∷ []) (expr.Aggregate Count None)
  AFold : (f : Fold) (level depth : ℕ) (ts : List Token) (e : Expr) → IsExpr level depth ts e
      → IsExpr 8 (depth + 1) (fold_word f ∷ word "(" ∷ ts ++ word ")" ∷ []) (expr.Aggregate f (Some e))
  InBrackets : (level depth : ℕ) (ts : List Token) (e : Expr) → IsExpr level depth ts e
      → IsExpr 8 (depth + 1) (word "(" ∷ ts ++ word ")" ∷ []) e
  AMinus : (level depth : ℕ) (ts : List Token) (e : Expr) → 7 ≤ level → IsExpr level depth ts e
      → IsExpr 7 (depth + 1) (word "-" ∷ ts) (expr.Negate e)
  ANot : (level depth : ℕ) (ts : List Token) (e : Expr) → 3 ≤ level → IsExpr level depth ts e
      → IsExpr 3 (depth + 1) (word "not" ∷ ts) (expr.Not e)
  ANull : (level depth : ℕ) (ts : List Token) (e : Expr) → 5 ≤ level → IsExpr level depth ts e
      → IsExpr 4 (depth + 1) (ts ++ word "is" ∷ word "null" ∷ []) (expr.IsNull e false)
  ANotNull : (level depth : ℕ) (ts : List Token) (e : Expr) → 5 ≤ level → IsExpr level depth ts e
      → IsExpr 4 (depth + 1) (ts ++ word "is" ∷ word "not" ∷ word "null" ∷ []) (expr.IsNull e true)
  APair : (op : Operator) (t : Token) (l m : ℕ) (xs : List Token) (a : Expr) (k n : ℕ) (ys : List Token)
      (b : Expr) → Writes op t
      → operator_left op ≤ l → IsExpr l m xs a → right_of op ≤ k → IsExpr k n ys b
      → IsExpr (operator_level op) (max m n + 1) (xs ++ t ∷ ys) (expr.Both op a b)

-- An expression goes on with an operator, with IS and with the dot of a column.
abbrev pub GoesOnWith : Token → Type 0
GoesOnWith t = ((op : Operator) × Writes op t) ⊎ ((t ≡ word "is") ⊎ (t ≡ word "."))

-- no expression in front of these tokens goes on with them
abbrev pub GoesNotOn : List Token → Type 0
GoesNotOn [] = Unit {0}
GoesNotOn (t ∷ ts) = GoesOnWith t → ⊥
