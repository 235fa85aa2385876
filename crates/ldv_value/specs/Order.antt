-- The total order of values, with its law, and comparisons in SQL's three-valued logic.
use Rattle.std.specs.Prelude.{◌≡◌, List, Bool, true, false, not, refl}
use Rattle.std.specs.declared.cmp.Ordering.{Ordering}
use Rattle.std.specs.declared.cmp.Ordering.TheVariants.{Less, Equal, Greater}
use Rattle.std.specs.Ordering.{nat_cmp, int_cmp, ordering_reverse, is_eq, is_lt, is_gt}
use Rattle.std.specs.Cmp.{IsTotalOrder, int_cmp_total}
use Rattle.std.specs.Cmp.Lexicographic.{slice_cmp, lists_total, nat_list_cmp_total}
use Rattle.ldv_value.specs.declared.value.Value.{Value}
use Rattle.ldv_value.specs.declared.value.Value.TheVariants.{Null, Int, Text}
use Rattle.ldv_value.specs.declared.value.Cmp.{Cmp}
use Rattle.ldv_value.specs.declared.value.Cmp.TheVariants.{Eq, Ne, Lt, Le, Gt, Ge}
use Rattle.ldv_value.specs.declared.value.Truth.{Truth}
use Rattle.ldv_value.specs.declared.value.Truth.TheVariants.{True, False, Unknown}

-- NULL first, then numbers, then texts by bytes
abbrev pub order : Value → Value → Ordering
order Null Null = Equal
order Null (Int n) = Less
order Null (Text t) = Less
order (Int m) Null = Greater
order (Int m) (Int n) = int_cmp m n
order (Int m) (Text t) = Less
order (Text s) Null = Greater
order (Text s) (Int n) = Greater
order (Text s) (Text t) = slice_cmp nat_cmp s t

-- lists of values, value by value, the list that is at its end first
abbrev pub values_order : List Value → List Value → Ordering
values_order a b = slice_cmp order a b

-- whether an operator holds at an order
abbrev pub meets : Cmp → Ordering → Bool
meets Eq o = is_eq o
meets Ne o = not (is_eq o)
meets Lt o = is_lt o
meets Le o = not (is_gt o)
meets Gt o = is_gt o
meets Ge o = not (is_lt o)

-- not one number and one text
abbrev pub IsTestable : Value → Value → Type 0
IsTestable Null Null = Unit {0}
IsTestable Null (Int n) = Unit {0}
IsTestable Null (Text t) = Unit {0}
IsTestable (Int m) Null = Unit {0}
IsTestable (Int m) (Int n) = Unit {0}
IsTestable (Int m) (Text t) = ⊥
IsTestable (Text s) Null = Unit {0}
IsTestable (Text s) (Int n) = ⊥
IsTestable (Text s) (Text t) = Unit {0}

abbrev pub truth_of_bool : Bool → Truth
truth_of_bool true = True
truth_of_bool false = False

-- unknown where a side is NULL
abbrev pub test_of : Cmp → Value → Value → Truth
test_of op Null b = Unknown
test_of op (Int m) Null = Unknown
test_of op (Int m) (Int n) = truth_of_bool (meets op (order (Int m) (Int n)))
test_of op (Int m) (Text t) = truth_of_bool (meets op (order (Int m) (Text t)))
test_of op (Text s) Null = Unknown
test_of op (Text s) (Int n) = truth_of_bool (meets op (order (Text s) (Int n)))
test_of op (Text s) (Text t) = truth_of_bool (meets op (order (Text s) (Text t)))

-- ---- the order is total

order_antisymm : (x y : Value) → order x y ≡ ordering_reverse (order y x)
order_antisymm Null Null = refl
order_antisymm Null (Int n) = refl
order_antisymm Null (Text t) = refl
order_antisymm (Int m) Null = refl
order_antisymm (Int m) (Int n) = int_cmp_total.antisymm m n
order_antisymm (Int m) (Text t) = refl
order_antisymm (Text s) Null = refl
order_antisymm (Text s) (Int n) = refl
order_antisymm (Text s) (Text t) = nat_list_cmp_total.antisymm s t

order_trans : (x y z : Value) → order x y ≡ Less → order y z ≡ Less → order x z ≡ Less
order_trans Null Null z a b = cc
order_trans Null (Int n) Null a b = cc
order_trans Null (Int n) (Int o) a b = refl
order_trans Null (Int n) (Text u) a b = refl
order_trans Null (Text t) Null a b = cc
order_trans Null (Text t) (Int o) a b = refl
order_trans Null (Text t) (Text u) a b = refl
order_trans (Int m) Null z a b = cc
order_trans (Int m) (Int n) Null a b = cc
order_trans (Int m) (Int n) (Int o) a b = int_cmp_total.trans m n o a b
order_trans (Int m) (Int n) (Text u) a b = refl
order_trans (Int m) (Text t) Null a b = cc
order_trans (Int m) (Text t) (Int o) a b = cc
order_trans (Int m) (Text t) (Text u) a b = refl
order_trans (Text s) Null z a b = cc
order_trans (Text s) (Int n) z a b = cc
order_trans (Text s) (Text t) Null a b = cc
order_trans (Text s) (Text t) (Int o) a b = cc
order_trans (Text s) (Text t) (Text u) a b = nat_list_cmp_total.trans s t u a b

order_congr : (x y z : Value) → order x y ≡ Equal → order x z ≡ order y z
order_congr Null Null z a = refl
order_congr Null (Int n) z a = cc
order_congr Null (Text t) z a = cc
order_congr (Int m) Null z a = cc
order_congr (Int m) (Int n) Null a = refl
order_congr (Int m) (Int n) (Int o) a = int_cmp_total.congr m n o a
order_congr (Int m) (Int n) (Text u) a = refl
order_congr (Int m) (Text t) z a = cc
order_congr (Text s) Null z a = cc
order_congr (Text s) (Int n) z a = cc
order_congr (Text s) (Text t) Null a = refl
order_congr (Text s) (Text t) (Int o) a = refl
order_congr (Text s) (Text t) (Text u) a = nat_list_cmp_total.congr s t u a

pub order_total : IsTotalOrder order
order_total = record { antisymm = order_antisymm; trans = order_trans; congr = order_congr }

pub values_total : IsTotalOrder values_order
values_total = lists_total order_total
