-- Tests of single columns of a source that hold if conditions are True.
use Rattle.std.specs.Prelude.{◌≡◌, ◌+◌, ℕ, List, [], ◌∷◌, Bool, true}
use Rattle.std.specs.List.{list_all, AllByRecursion}
use Rattle.predicates.specs.Conditions.{meets}
use Rattle.predicates.specs.Placing.{IsPlaced, AreAllPlaced}
use Rattle.predicates.specs.Types.{Column, ColumnName, Expr, Value}
use Rattle.predicates.specs.declared.placed.BoundExpr.{BoundExpr}
use Rattle.ldv_value.specs.declared.value.Cmp.{Cmp}
use Rattle.ldv_value.specs.declared.value.Cmp.TheVariants.{Eq, Ne, Lt, Le, Gt, Ge}
use Rattle.sql_model.specs.ColumnTests.{fits, passes}
use Rattle.sql_model.specs.Kinds.{names_in}
use Rattle.sql_model.specs.Meaning.{Environment, is_true, truth}
use Rattle.ldv_value.specs.Cells.{value_at}
use Rattle.sql_model.specs.Scope.{InScope, environment}
use Rattle.sql_model.specs.declared.column_test.CellTest.{CellTest}
use Rattle.sql_model.specs.declared.column_test.ColumnTest.{ColumnTest}

-- ---- the masks of a source, whose columns come after `before` values of the joined row

-- where all conditions are True, the value of the column passes
abbrev pub IsMask : List BoundExpr → ℕ → ColumnTest → Type 0
IsMask conds before mask = (scope : List InScope) (row : List Value) → AreAllPlaced scope conds
    → meets scope conds row ≡ true
    → passes mask.test (value_at row (before + mask.column)) ≡ true

-- and each is of a column that it suits
abbrev pub AreMasks : List BoundExpr → ℕ → List Column → List ColumnTest → Type 0
AreMasks conds before columns masks =
    AllByRecursion (λ mask. (fits columns mask ≡ true) × IsMask conds before mask) masks

-- the values of a joined row pass each mask of the source
abbrev pub passes_at : ℕ → List ColumnTest → List Value → Bool
passes_at before masks row =
    list_all (λ mask. passes mask.test (value_at row (before + mask.column))) masks

-- each mask is of a column that it suits, and all conditions are True just where the values pass
pub record AreExact (conds : List BoundExpr) (before : ℕ) (columns : List Column) (masks : List ColumnTest)
    : Type 0 where
  pub fit : AllByRecursion (λ mask. fits columns mask ≡ true) masks
  pub same : (scope : List InScope) (row : List Value) → AreAllPlaced scope conds
      → passes_at before masks row ≡ meets scope conds row

-- ---- conditions

-- the operator with its sides exchanged
abbrev pub commuted_cmp : Cmp → Cmp
commuted_cmp Eq = Eq
commuted_cmp Ne = Ne
commuted_cmp Lt = Gt
commuted_cmp Le = Ge
commuted_cmp Gt = Lt
commuted_cmp Ge = Le

-- the expression tests a column, which alone it names
pub record IsTest (expr : Expr) (test : CellTest) : Type 0 where
  pub name : ColumnName
  pub names : names_in expr ≡ name ∷ []
  pub same : (env : Environment) → is_true (truth expr env) ≡ passes test (env name)

-- the condition is True just where the value of the column passes
abbrev pub IsMaskOf : BoundExpr → ℕ → ColumnTest → Type 0
IsMaskOf cond before mask = (scope : List InScope) (row : List Value) → IsPlaced scope cond
    → passes mask.test (value_at row (before + mask.column))
    ≡ is_true (truth cond.expr (environment scope row))

-- and the column suits
pub record IsFound (cond : BoundExpr) (before : ℕ) (columns : List Column) (mask : ColumnTest) : Type 0 where
  pub fits : fits columns mask ≡ true
  pub is : IsMaskOf cond before mask
