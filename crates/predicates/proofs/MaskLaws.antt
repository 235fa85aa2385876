-- Tests of single columns.
use Rattle.std.proofs.Common.{◌≡◌, ◌∙◌, sym, ap, refl, ℕ, zero, suc, arith, ◌+◌, ◌<◌, Bool, true, false, ◌&&◌, List, [], ◌∷◌, ◌++◌, drop, length}
use Rattle.std.specs.Prelude.{ℤ, option_to_list, slice_get, IfSome, Option, Some, None}
use Rattle.std.specs.List.{list_all, AllByRecursion}
use Rattle.std.specs.Option.{option_map_or}
use Rattle.std.specs.declared.cmp.Ordering.{Ordering}
use Rattle.std.specs.declared.cmp.Ordering.TheVariants.{Less, Equal, Greater}
use Rattle.std.specs.Ordering.{ordering_reverse}
use Rattle.predicates.proofs.Equalities.{column-first, column-null, constant-first, first-place}
use Rattle.predicates.proofs.FixingLaws.{at-index}
use Rattle.predicates.specs.Conditions.{meets}
use Rattle.predicates.specs.inner.Constants.{IsConstant}
use Rattle.predicates.specs.Equality.{IsColumn}
use Rattle.predicates.specs.Masking.{AreMasks, IsFound, IsMask, IsTest, passes_at, commuted_cmp}
use Rattle.predicates.specs.Placing.{AreAllPlaced}
use Rattle.predicates.specs.Types.{Column, Compare, Expr, Int, Null, Text, Value}
use Rattle.predicates.specs.declared.placed.BoundExpr.{BoundExpr}
use Rattle.ldv_value.specs.Order.{order, meets as meets_order, truth_of_bool, test_of, order_total}
use Rattle.ldv_value.specs.declared.value.Cmp.{Cmp}
use Rattle.ldv_value.specs.declared.value.Cmp.TheVariants.{Eq, Ne, Lt, Le, Gt, Ge}
use Rattle.ldv_value.proofs.Booleans.{and-true, and-assoc}
use Rattle.sql_model.specs.ColumnTests.{fits, passes, passes_all, suits}
use Rattle.sql_model.specs.Meaning.{is_true, truth}
use Rattle.ldv_value.specs.Cells.{value_at}
use Rattle.sql_model.specs.Scope.{InScope, environment}
use Rattle.sql_model.specs.declared.column_test.CellTest.{CellTest}
use Rattle.sql_model.specs.declared.column_test.CellTest.TheVariants.{IsNull as TestsNull, IsNotNull}
use Rattle.sql_model.specs.declared.column_test.CellTest.TheVariants.{Compare as Compares}
use Rattle.sql_model.specs.declared.column_test.ColumnTest.{ColumnTest}
use Rattle.sql_model.specs.declared.expr.Expr.TheVariants.{Both, IsNull}

-- ---- comparisons

meets-commuted_cmp : (op : Cmp) (o : Ordering) → meets_order op o ≡ meets_order (commuted_cmp op) (ordering_reverse o)
meets-commuted_cmp Eq Less = refl
meets-commuted_cmp Eq Equal = refl
meets-commuted_cmp Eq Greater = refl
meets-commuted_cmp Ne Less = refl
meets-commuted_cmp Ne Equal = refl
meets-commuted_cmp Ne Greater = refl
meets-commuted_cmp Lt Less = refl
meets-commuted_cmp Lt Equal = refl
meets-commuted_cmp Lt Greater = refl
meets-commuted_cmp Le Less = refl
meets-commuted_cmp Le Equal = refl
meets-commuted_cmp Le Greater = refl
meets-commuted_cmp Gt Less = refl
meets-commuted_cmp Gt Equal = refl
meets-commuted_cmp Gt Greater = refl
meets-commuted_cmp Ge Less = refl
meets-commuted_cmp Ge Equal = refl
meets-commuted_cmp Ge Greater = refl

truth_of_bool-commuted_cmp : (op : Cmp) (a b : Value) → truth_of_bool (meets_order op (order a b)) ≡ truth_of_bool (meets_order (commuted_cmp op) (order b a))
truth_of_bool-commuted_cmp op a b = ap truth_of_bool (meets-commuted_cmp op (order a b) ∙ ap (meets_order (commuted_cmp op)) (sym (order_total.antisymm b a)))

test-commuted_cmp : (op : Cmp) (n : ℤ) (v : Value) → test_of op (Int n) v ≡ test_of (commuted_cmp op) v (Int n)
test-commuted_cmp op n Null = refl
test-commuted_cmp op n (Int m) = truth_of_bool-commuted_cmp op (Int n) (Int m)
test-commuted_cmp op n (Text t) = truth_of_bool-commuted_cmp op (Int n) (Text t)

pub column_number : (test : Cmp) (left right : Expr) (n : ℤ) → IsColumn left → IsConstant right (Int n) → IsTest (Both (Compare test) left right) (Compares test n)
column_number test left right n (name, is) number =
    let compared = column-first test left right name (Int n) is number in record {
      name = name;
      names = compared.0;
      same = compared.1;
    }

pub number_column : (test : Cmp) (left right : Expr) (n : ℤ) → IsConstant left (Int n) → IsColumn right → IsTest (Both (Compare test) left right) (Compares (commuted_cmp test) n)
number_column test left right n number (name, is) =
    let compared = constant-first test left right (Int n) name number is in record {
      name = name;
      names = compared.0;
      same = λ env. compared.1 env ∙ ap is_true (test-commuted_cmp test n (env name));
    }

-- ---- tests for NULL

pub null_column : (inner : Expr) (negative : Bool) → IsColumn inner → negative ≡ false → IsTest (IsNull inner negative) TestsNull
null_column inner true column is = cc
null_column inner false (name, at) is =
    let tested = column-null inner false name at in record {
      name = name;
      names = tested.0;
      same = tested.1;
    }

pub known_column : (inner : Expr) (negative : Bool) → IsColumn inner → negative ≡ true → IsTest (IsNull inner negative) IsNotNull
known_column inner false column is = cc
known_column inner true (name, at) is =
    let tested = column-null inner true name at in record {
      name = name;
      names = tested.0;
      same = tested.1;
    }

pub ruleset null_tests = (null_column, known_column)

-- ---- masks

pub mask-found : (cond : BoundExpr) (before column place : ℕ) (more : List ℕ) (columns : List Column) (test : CellTest) (mask : ColumnTest)
    → IsTest cond.expr test → cond.places ≡ place ∷ more → before + column ≡ place → mask ≡ record { column = column; test = test } → fits columns mask ≡ true
    → IsFound cond before columns mask
mask-found cond before column place more columns test mask is places at made suit = record {
  fits = suit;
  is = λ scope row placed.
      ap (λ (m : ColumnTest). passes m.test (value_at row (before + m.column))) made
      ∙ ap (λ (i : ℕ). passes test (value_at row i)) (at ∙ sym (first-place scope cond is.name place more is.names placed places))
      ∙ sym (is.same (environment scope row));
}

masks-joined : (P : ColumnTest → Type 0) (masks : List ColumnTest) (found : Option ColumnTest) → AllByRecursion P masks → IfSome found P → AllByRecursion P (masks ++ option_to_list found)
masks-joined P [] None all one = tt
masks-joined P [] (Some mask) all one = (one, tt)
masks-joined P (m ∷ masks) found all one = (all.0, masks-joined P masks found all.1 one)

-- the mask of one condition is one of all conditions
pub masks-more : (conds rest : List BoundExpr) (i before : ℕ) (cond : BoundExpr) (columns : List Column) (masks : List ColumnTest) (found : Option ColumnTest) → drop i conds ≡ cond ∷ rest
    → IfSome found (IsFound cond before columns) → AreMasks conds before columns masks → AreMasks conds before columns (masks ++ option_to_list found)
masks-more conds rest i before cond columns masks found split is all =
    masks-joined (λ mask. (fits columns mask ≡ true) × IsMask conds before mask) masks found all (found-one found is)
  where
    found-one : (o : Option ColumnTest) → IfSome o (IsFound cond before columns) → IfSome o (λ mask. (fits columns mask ≡ true) × IsMask conds before mask)
    found-one None one = tt
    found-one (Some mask) one = (
      one.fits,
      (λ scope row placed met.
          let here = at-index scope row cond rest conds i split placed met in
          one.is scope row here.0 ∙ here.1),
    )

-- ---- masks that say all that conditions say

all-last : {X : Type 0} (p : X → Bool) (xs : List X) (x : X) → list_all p (xs ++ x ∷ []) ≡ (list_all p xs && p x)
all-last p [] x = and-true (p x)
all-last p (y ∷ ys) x = by (p y) (all-last p ys x)
  where
    by : (b : Bool) → list_all p (ys ++ x ∷ []) ≡ (list_all p ys && p x) → (b && list_all p (ys ++ x ∷ [])) ≡ ((b && list_all p ys) && p x)
    by true rest = rest
    by false rest = refl

module _ (scope : List InScope) (before : ℕ) (row : List Value) where
  abbrev one-passes : ColumnTest → Bool
  one-passes mask = passes mask.test (value_at row (before + mask.column))

  -- a condition goes from those that are left to the masks
  pub exact-more : (masks : List ColumnTest) (mask : ColumnTest) (cond : BoundExpr) (rest : List BoundExpr) (all : Bool)
      → passes mask.test (value_at row (before + mask.column)) ≡ is_true (truth cond.expr (environment scope row))
      → (passes_at before masks row && meets scope (cond ∷ rest) row) ≡ all
      → (passes_at before (masks ++ mask ∷ []) row && meets scope rest row) ≡ all
  exact-more masks mask cond rest all same is =
      ap (λ b. b && meets scope rest row) (all-last one-passes masks mask)
      ∙ and-assoc (passes_at before masks row) (one-passes mask) (meets scope rest row)
      ∙ ap (λ b. passes_at before masks row && (b && meets scope rest row)) same
      ∙ is

  pub exact-end : (masks : List ColumnTest) (left : List BoundExpr) (all : Bool) → left ≡ [] → (passes_at before masks row && meets scope left row) ≡ all → passes_at before masks row ≡ all
  exact-end masks left all none is =
      sym (and-true (passes_at before masks row)) ∙ ap (λ (cs : List BoundExpr). passes_at before masks row && meets scope cs row) (sym none) ∙ is

pub fit-more : (columns : List Column) (masks : List ColumnTest) (mask : ColumnTest) → AllByRecursion (λ m. fits columns m ≡ true) masks → fits columns mask ≡ true
    → AllByRecursion (λ m. fits columns m ≡ true) (masks ++ mask ∷ [])
fit-more columns [] mask fit one = (one, tt)
fit-more columns (m ∷ masks) mask fit one = (fit.0, fit-more columns masks mask fit.1 one)

pub masks-fit : (conds : List BoundExpr) (before : ℕ) (columns : List Column) (masks : List ColumnTest) → AreMasks conds before columns masks → AllByRecursion (λ mask. fits columns mask ≡ true) masks
masks-fit conds before columns [] are = tt
masks-fit conds before columns (mask ∷ masks) are = (are.0.0, masks-fit conds before columns masks are.1)

-- ---- a row passes the masks

within : (columns : List Column) (mask : ColumnTest) → fits columns mask ≡ true → mask.column < length columns
within columns mask is = got columns mask.column is
  where
    got : (cs : List Column) (i : ℕ) → option_map_or (suits mask.test) (slice_get cs i) false ≡ true → i < length cs
    got [] i h = cc
    got (c ∷ cs) zero h = omega arith
    got (c ∷ cs) (suc i) h = let below : i < length cs = got cs i h in omega (arith, below)

-- the row is a part of a whole over which the conditions are True, after its first values
module _ (scope : List InScope) (conds : List BoundExpr) (placed : AreAllPlaced scope conds) (before : ℕ) (columns : List Column) (whole row : List Value)
    (there : (column : ℕ) → column < length columns → value_at whole (before + column) ≡ value_at row column) (met : meets scope conds whole ≡ true) where
  pub masks-pass : (masks : List ColumnTest) → AreMasks conds before columns masks → passes_all masks row ≡ true
  masks-pass [] are = refl
  masks-pass (mask ∷ masks) are =
      let one : passes mask.test (value_at row mask.column) ≡ true =
      ap (passes mask.test) (sym (there mask.column (within columns mask are.0.0))) ∙ are.0.1 scope whole placed met in
      λ j. one j && masks-pass masks are.1 j
