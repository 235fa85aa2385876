-- Facts about each item of a list, and lists that rise.
use Rattle.std.proofs.Common.{◌≡◌, ℕ, ◌≤◌, List, [], ◌∷◌, length, ap, Bool, true, false, arith, inl, inr}
use Rattle.std.specs.Prelude.{filter}
use Rattle.std.specs.declared.cmp.Ordering.TheVariants.{Less, Equal}
use Rattle.std.specs.Ordering.{nat_cmp, is_lt}
use Rattle.std.specs.Cmp.Lexicographic.{slice_cmp}
use Rattle.std.proofs.lemmas.Bool.{cases_Bool}
use Rattle.std.proofs.lemmas.Cmp.{nat_list_cmp_total, tied_itself}
pub use Rattle.ldv_value.proofs.ItemLists.{all_append, all_filter, all_found, all_map, all_of_map, all_flat_map}
use Rattle.sql_model.proofs.SortedLists.{sorted-filter}
use Rattle.ldv_value.proofs.Orderings.{is_lt-true}
use Rattle.package_layout.specs.inner.Order.{rises, is_below}
use Rattle.ldv_value.proofs.TextOrders.{text_trans}

-- ---- one text, or number, below another

pub below_less : (a b : List ℕ) → is_below a b ≡ true → slice_cmp nat_cmp a b ≡ Less
below_less a b h = is_lt-true (slice_cmp nat_cmp a b) h

pub equal_itself : (a : List ℕ) → slice_cmp nat_cmp a a ≡ Equal
equal_itself a = tied_itself nat_list_cmp_total a

pub below_itself : (a : List ℕ) → is_below a a ≡ false
below_itself a = ap is_lt (equal_itself a)

-- ---- lists that rise

-- what is left of a rising list of texts rises
module _ {X : Type 0} (name : X → List ℕ) (p : X → Bool) where
  abbrev pub under : X → X → Bool
  under x y = is_below (name x) (name y)

  pub filter_rises : (xs : List X) → rises under xs ≡ true → rises under (filter p xs) ≡ true
  filter_rises xs sorted = sorted-filter under (λ a b c. text_trans (name a) (name b) (name c)) p xs sorted

-- ---- how many are left

pub filter_most : {X : Type 0} (p : X → Bool) (xs : List X) → length (filter p xs) ≤ length xs
filter_most p [] = omega arith
filter_most p (x ∷ xs) =
    let rest : length (filter p xs) ≤ length xs = filter_most p xs in
    elim (cases_Bool (p x)) [
      | inl hit ↦ rw hit (omega arith)
      | inr miss ↦ rw miss (omega arith)
    ]

pub filter_fewer : {X : Type 0} (p q : X → Bool) → ((x : X) → p x ≡ true → q x ≡ true) → (xs : List X) → length (filter p xs) ≤ length (filter q xs)
filter_fewer p q from [] = omega arith
filter_fewer p q from (x ∷ xs) =
    let rest : length (filter p xs) ≤ length (filter q xs) = filter_fewer p q from xs in
    elim (cases_Bool (p x)) [
      | inl hit ↦ let also : q x ≡ true = from x hit in rw (hit, also) (omega arith)
      | inr miss ↦ elim (cases_Bool (q x)) [
        | inl more ↦ rw (miss, more) (omega arith)
        | inr less ↦ rw (miss, less) rest
      ]
    ]
