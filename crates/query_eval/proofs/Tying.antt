-- Equality of values, against their order.
use Rattle.std.proofs.Common.{◌≡◌, ◌∙◌, refl, true, false}
use Rattle.std.specs.Ordering.{is_eq, int_cmp}
use Rattle.std.specs.Cmp.{eq_by_cmp_equiv}
use Rattle.ldv_value.specs.declared.value.Value.{Value}
use Rattle.ldv_value.specs.declared.value.Value.TheVariants.{Null, Int, Text}
use Rattle.ldv_value.specs.Order.{order, order_total}
use Rattle.predicates.specs.Equality.{equals}
use Rattle.predicates.proofs.Equalities.{truth_of_bool-true}
use Rattle.sql_model.specs.Meaning.{is_null}

-- `=` of what isn't NULL is a tie in the order
pub equals_tied : (v w : Value) → is_null w ≡ false → equals v w ≡ is_eq (order w v)
equals_tied Null Null is = cc
equals_tied Null (Int n) is = refl
equals_tied Null (Text t) is = refl
equals_tied (Int m) Null is = cc
equals_tied (Int m) (Int n) is = truth_of_bool-true (is_eq (int_cmp m n)) ∙ (eq_by_cmp_equiv order_total).symm (Int m) (Int n)
equals_tied (Int m) (Text t) is = refl
equals_tied (Text s) Null is = cc
equals_tied (Text s) (Int n) is = refl
equals_tied (Text s) (Text t) is = truth_of_bool-true (is_eq (order (Text s) (Text t))) ∙ (eq_by_cmp_equiv order_total).symm (Text s) (Text t)

pub equals_null : (v w : Value) → is_null w ≡ true → equals v w ≡ false
equals_null Null w is = refl
equals_null (Int m) Null is = refl
equals_null (Int m) (Int n) is = cc
equals_null (Int m) (Text t) is = cc
equals_null (Text s) Null is = refl
equals_null (Text s) (Int n) is = cc
equals_null (Text s) (Text t) is = cc

pub null_equals : (v w : Value) → is_null v ≡ true → equals v w ≡ false
null_equals Null w is = refl
null_equals (Int m) w is = cc
null_equals (Text s) w is = cc
