-- Columns that conditions fix to constants.
use Rattle.std.specs.Prelude.{◌≡◌, ◌+◌, ◌<◌, ℕ, List, [], ◌∷◌, length, true}
use Rattle.predicates.specs.Conditions.{meets}
use Rattle.predicates.specs.Equality.{equals}
use Rattle.predicates.specs.Placing.{IsPlaced, AreAllPlaced}
use Rattle.predicates.specs.Types.{ColumnName, Expr, Value}
use Rattle.predicates.specs.declared.placed.BoundExpr.{BoundExpr}
use Rattle.sql_model.specs.Kinds.{names_in}
use Rattle.sql_model.specs.Meaning.{Environment, is_true, truth}
use Rattle.ldv_value.specs.Cells.{value_at}
use Rattle.sql_model.specs.Scope.{InScope, environment}

-- the expression is the equality of a column, which alone it names, with a value
pub record IsFixing (expr : Expr) (value : Value) : Type 0 where
  pub name : ColumnName
  pub names : names_in expr ≡ name ∷ []
  pub same : (env : Environment) → is_true (truth expr env) ≡ equals (env name) value

-- where the condition is True, a place of the joined row has a value
abbrev pub Fixes : BoundExpr → ℕ → Value → Type 0
Fixes cond at value = (scope : List InScope) (row : List Value) → IsPlaced scope cond
    → is_true (truth cond.expr (environment scope row)) ≡ true
    → value_at row at ≡ value

-- and where all conditions are
abbrev pub AllFix : List BoundExpr → ℕ → Value → Type 0
AllFix conds at value = (scope : List InScope) (row : List Value) → AreAllPlaced scope conds
    → meets scope conds row ≡ true
    → value_at row at ≡ value

-- ---- the `width` columns of a source, which come after `before` values of the joined row

-- one of these columns has a value
pub record FixesColumn (conds : List BoundExpr) (before width column : ℕ) (value : Value) : Type 0 where
  pub within : column < width
  pub fixed : AllFix conds (before + column) value

-- columns have values, one by one
abbrev pub FixesAll : List BoundExpr → ℕ → ℕ → List ℕ → List Value → Type 0
FixesAll conds before width [] [] = Unit {0}
FixesAll conds before width [] (value ∷ values) = ⊥
FixesAll conds before width (column ∷ columns) [] = ⊥
FixesAll conds before width (column ∷ columns) (value ∷ values) =
    FixesColumn conds before width column value × FixesAll conds before width columns values

-- the columns of a key, of which there is one at least
pub record FixesKey (conds : List BoundExpr) (before width : ℕ) (key : List ℕ) (values : List Value)
    : Type 0 where
  pub some : 0 < length key
  pub all : FixesAll conds before width key values
