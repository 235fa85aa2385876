-- Columns that conditions fix to constants.
use Rattle.std.proofs.Common.{◌≡◌, ◌∙◌, sym, ap, subst, refl, ℕ, zero, suc, ◌+◌, ◌<◌, true, List, [], ◌∷◌, ◌++◌, drop, length, append_assoc, append-nil, arith}
use Rattle.std.specs.Cmp.{eq_by_cmp_equiv}
use Rattle.std.specs.Ordering.{is_eq}
use Rattle.std.specs.declared.cmp.Ordering.{Ordering}
use Rattle.std.specs.declared.cmp.Ordering.TheVariants.{Less, Equal, Greater}
use Rattle.predicates.proofs.Equalities.{column-first, constant-first, equals-turned, first-place}
use Rattle.predicates.specs.Conditions.{meets}
use Rattle.predicates.specs.inner.Constants.{IsConstant}
use Rattle.predicates.specs.Equality.{IsColumn, equals}
use Rattle.predicates.specs.Fixing.{IsFixing, Fixes, AllFix, FixesColumn, FixesAll, FixesKey}
use Rattle.predicates.specs.Placing.{IsPlaced, AreAllPlaced}
use Rattle.predicates.specs.Types.{Compare, Expr, Null, Int, Text, Value}
use Rattle.predicates.specs.declared.placed.BoundExpr.{BoundExpr}
use Rattle.ldv_value.proofs.Booleans.{and-parts}
use Rattle.ldv_value.specs.Order.{order, truth_of_bool, values_total}
use Rattle.ldv_value.specs.declared.value.Cmp.TheVariants.{Eq}
use Rattle.sql_model.specs.Keys.{same_values, values_at}
use Rattle.sql_model.specs.Meaning.{is_true, truth}
use Rattle.ldv_value.specs.Cells.{value_at}
use Rattle.sql_model.specs.Scope.{InScope, environment}
use Rattle.sql_model.specs.declared.expr.Expr.TheVariants.{Both}
use Rattle.sql_model.proofs.SameValues.{exact}

-- ---- where `=` is True, values are equal

equal-by : (o : Ordering) → is_true (truth_of_bool (is_eq o)) ≡ true → o ≡ Equal
equal-by Less is = cc
equal-by Equal is = refl
equal-by Greater is = cc

pub equals-is : (a b : Value) → equals a b ≡ true → a ≡ b
equals-is Null b is = cc
equals-is (Int m) Null is = cc
equals-is (Int m) (Int n) is = exact (Int m) (Int n) (equal-by (order (Int m) (Int n)) is)
equals-is (Int m) (Text t) is = cc
equals-is (Text s) Null is = cc
equals-is (Text s) (Int n) is = cc
equals-is (Text s) (Text t) is = exact (Text s) (Text t) (equal-by (order (Text s) (Text t)) is)

-- ---- an equality of a column with a constant

pub column_constant : (left right : Expr) (value : Value) → IsColumn left → IsConstant right value → IsFixing (Both (Compare Eq) left right) value
column_constant left right value (name, is) constant =
    let compared = column-first Eq left right name value is constant in record {
      name = name;
      names = compared.0;
      same = compared.1;
    }

pub constant_column : (left right : Expr) (value : Value) → IsConstant left value → IsColumn right → IsFixing (Both (Compare Eq) left right) value
constant_column left right value constant (name, is) =
    let compared = constant-first Eq left right value name constant is in record {
      name = name;
      names = compared.0;
      same = λ env. compared.1 env ∙ equals-turned value (env name);
    }

-- the column's place is the one that the condition has
pub fixes-is : (cond : BoundExpr) (at place : ℕ) (more : List ℕ) (value : Value) → IsFixing cond.expr value → cond.places ≡ place ∷ more → place ≡ at → Fixes cond at value
fixes-is cond at place more value is places here scope row placed holds =
    ap (value_at row) (sym (first-place scope cond is.name place more is.names placed places ∙ here))
    ∙ equals-is (environment scope row is.name) value (sym (is.same (environment scope row)) ∙ holds)

-- ---- a condition among others

module _ (scope : List InScope) (row : List Value) (cond : BoundExpr) (rest : List BoundExpr) where
  pub at-index : (conds : List BoundExpr) (i : ℕ) → drop i conds ≡ cond ∷ rest → AreAllPlaced scope conds → meets scope conds row ≡ true
      → IsPlaced scope cond × (is_true (truth cond.expr (environment scope row)) ≡ true)
  at-index [] zero split placed met = cc
  at-index [] (suc i) split placed met = cc
  at-index (first ∷ conds) zero split placed met =
      let same : first ≡ cond = cc in
      let both = and-parts (is_true (truth first.expr (environment scope row))) (meets scope conds row) met in
      (subst (IsPlaced scope) same placed.0, ap (λ (c : BoundExpr). is_true (truth c.expr (environment scope row))) (sym same) ∙ both.0)
  at-index (first ∷ conds) (suc i) split placed met =
      at-index conds i split placed.1 (and-parts (is_true (truth first.expr (environment scope row))) (meets scope conds row) met).1

pub all-fix : (conds rest : List BoundExpr) (i : ℕ) (cond : BoundExpr) (at : ℕ) (value : Value) → drop i conds ≡ cond ∷ rest → Fixes cond at value → AllFix conds at value
all-fix conds rest i cond at value split fixes scope row placed met =
    let here = at-index scope row cond rest conds i split placed met in
    fixes scope row here.0 here.1

pub fixed-column : (conds : List BoundExpr) (before width column at : ℕ) (value : Value) → column < width → at ≡ before + column → AllFix conds at value → FixesColumn conds before width column value
fixed-column conds before width column at value within is all = record {
  within = within;
  fixed = subst (λ (n : ℕ). AllFix conds n value) is all;
}

-- ---- columns, one by one

pub fixed_step : (conds : List BoundExpr) (before width : ℕ) (columns others : List ℕ) (column : ℕ) (values new : List Value) (value copy : Value)
    → copy ≡ value → new ≡ values ++ copy ∷ [] → FixesColumn conds before width column value
    → ((rest : List Value) → FixesAll conds before width (column ∷ others) rest → FixesAll conds before width columns (values ++ rest))
    → (rest : List Value) → FixesAll conds before width others rest → FixesAll conds before width columns (new ++ rest)
fixed_step conds before width columns others column values new value copy is made fixed all rest are =
    let whole : FixesAll conds before width columns (values ++ (copy ∷ rest)) = all (copy ∷ rest) (subst (FixesColumn conds before width column) (sym is) fixed, are) in
    subst (FixesAll conds before width columns) (sym (ap (λ (l : List Value). l ++ rest) made ∙ append_assoc values (copy ∷ []) rest)) whole

pub fixed_none : (conds : List BoundExpr) (before width : ℕ) (columns left : List ℕ) (values : List Value) → length left < 1
    → ((rest : List Value) → FixesAll conds before width left rest → FixesAll conds before width columns (values ++ rest)) → FixesAll conds before width columns values
fixed_none conds before width columns [] values end all = subst (FixesAll conds before width columns) (append-nil values) (all [] tt)
fixed_none conds before width columns (column ∷ left) values end all = absurd (omega (arith, end))

pub ruleset fixed_end = (fixed_step, fixed_none)

-- ---- a row has the values of the key

-- the row is a part of a whole over which the conditions are True, after its first values
module _ (scope : List InScope) (conds : List BoundExpr) (placed : AreAllPlaced scope conds) (before width : ℕ) (whole row : List Value)
    (there : (column : ℕ) → column < width → value_at whole (before + column) ≡ value_at row column) (met : meets scope conds whole ≡ true) where
  fixed-value : (column : ℕ) (value : Value) → FixesColumn conds before width column value → value_at row column ≡ value
  fixed-value column value is = sym (there column is.within) ∙ is.fixed scope whole placed met

  fixed-values : (columns : List ℕ) (values : List Value) → FixesAll conds before width columns values → values_at columns row ≡ values
  fixed-values [] [] are = refl
  fixed-values [] (value ∷ values) are = absurd are
  fixed-values (column ∷ columns) [] are = absurd are
  fixed-values (column ∷ columns) (value ∷ values) are = λ j. fixed-value column value are.0 j ∷ fixed-values columns values are.1 j

  pub fixed-key : (key : List ℕ) (values : List Value) → FixesKey conds before width key values → same_values (values_at key row) values ≡ true
  fixed-key key values is = ap (λ (vs : List Value). same_values vs values) (fixed-values key values is.all) ∙ (eq_by_cmp_equiv values_total).refl values
