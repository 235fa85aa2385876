-- Expressions that have one value over every row.
use Rattle.std.specs.Prelude.{◌≡◌, List, [], ◌∷◌, Bool, true, false}
use Rattle.predicates.specs.Types.{ColumnName, Expr, Value}
use Rattle.sql_model.specs.Kinds.{names_in}
use Rattle.sql_model.specs.Meaning.{Environment, eval}

abbrev pub are_none : List ColumnName → Bool
are_none [] = true
are_none (name ∷ names) = false

-- it names no column
abbrev pub is_nameless : Expr → Bool
is_nameless expr = are_none (names_in expr)

-- it names no column, and over every row it has the value
pub record IsConstant (expr : Expr) (value : Value) : Type 0 where
  pub nameless : names_in expr ≡ []
  pub same : (env : Environment) → (eval expr (env ∷ [])).value ≡ value
