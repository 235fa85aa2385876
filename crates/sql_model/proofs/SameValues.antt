-- Two values are the same by the test exactly if they are equal.
use Rattle.std.proofs.Common.{◌≡◌, ◌∙◌, sym, ap, refl, true, List, inl, inr}
use Rattle.std.specs.FinMap.{int_cmp-IsAntisymmetric, nat_cmp-IsAntisymmetric, slice_cmp-IsAntisymmetric}
use Rattle.std.specs.Ordering.{is_eq}
use Rattle.std.specs.declared.cmp.Ordering.TheVariants.{Equal}
use Rattle.std.proofs.lemmas.Bool.{cases_Bool}
use Rattle.std.proofs.lemmas.Cmp.{tied_itself}
use Rattle.ldv_value.specs.Order.{order, values_order, values_total}
use Rattle.ldv_value.specs.declared.value.Value.{Value}
use Rattle.ldv_value.specs.declared.value.Value.TheVariants.{Null, Int, Text}
use Rattle.ldv_value.proofs.Booleans.{true≢false}
use Rattle.ldv_value.proofs.Orderings.{is_eq-true}
use Rattle.sql_model.specs.Keys.{same_values}

pub exact : (x y : Value) → order x y ≡ Equal → x ≡ y
exact Null Null is = refl
exact Null (Int n) is = cc
exact Null (Text t) is = cc
exact (Int m) Null is = cc
exact (Int m) (Int n) is = ap Int (int_cmp-IsAntisymmetric m n is)
exact (Int m) (Text t) is = cc
exact (Text s) Null is = cc
exact (Text s) (Int n) is = cc
exact (Text s) (Text t) is = ap Text (slice_cmp-IsAntisymmetric nat_cmp-IsAntisymmetric s t is)

pub all_exact : (x y : List Value) → values_order x y ≡ Equal → x ≡ y
all_exact = slice_cmp-IsAntisymmetric exact

-- ---- rows of values, as keys compare them

pub same_exact : (a b : List Value) → same_values a b ≡ true → a ≡ b
same_exact a b is = all_exact a b (is_eq-true (values_order a b) is)

pub is_same : (a b : List Value) → a ≡ b → same_values a b ≡ true
is_same a b is = ap (λ (v : List Value). same_values a v) (sym is) ∙ ap is_eq (tied_itself values_total a)

pub same_turned : (a b : List Value) → same_values a b ≡ same_values b a
same_turned a b = elim (cases_Bool (same_values a b)) [
  | inl hit ↦ hit ∙ sym (is_same b a (sym (same_exact a b hit)))
  | inr miss ↦ elim (cases_Bool (same_values b a)) [
    | inl hit ↦ absurd (true≢false (sym (is_same a b (sym (same_exact b a hit))) ∙ miss))
    | inr also ↦ miss ∙ sym also
  ]
]
