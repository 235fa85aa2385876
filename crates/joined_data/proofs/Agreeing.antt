-- If two sorted lists have no clash, two items with the same key agree; and items that agree are equal.
use Rattle.std.proofs.Common.{◌≡◌, ℕ, List, [], ◌∷◌, refl, sym, ap, ◌∙◌, Bool, true, false, inl, inr}
use Rattle.std.specs.Prelude.{Option, Some, None, not, bytes_eq, nat_eq, ◌&&◌, ◌==◌}
use Rattle.std.specs.Option.{option_or}
use Rattle.std.specs.Cmp.{IsTotalOrder}
use Rattle.std.specs.Cmp.Lexicographic.{pointwise}
use Rattle.std.specs.Ordering.{ordering_reverse, match_ordering}
use Rattle.std.specs.declared.cmp.Ordering.{Ordering}
use Rattle.std.specs.declared.cmp.Ordering.TheVariants.{Less, Equal, Greater}
use Rattle.std.proofs.lemmas.Bool.{and_parts}
use Rattle.std.proofs.lemmas.Cmp.{tied_back}
use Rattle.ldv_value.proofs.SameBytes.{bytes_eq-true, nat_eq-true}
use Rattle.ldv_value.proofs.Orderings.{is_eq-true}
use Rattle.ldv_value.proofs.Booleans.{not-false}
use Rattle.sql_model.specs.declared.table.Column.{Column}
use Rattle.sql_model.specs.declared.table.Foreign.{Foreign}
use Rattle.sql_model.specs.declared.table.Schema.{Schema}
use Rattle.sql_model.specs.Keys.{same_values}
use Rattle.ldv_value.specs.Order.{values_order}
use Rattle.sql_model.proofs.UniqueKeys.{or_none}
use Rattle.sql_model.proofs.SameValues.{all_exact}
use Rattle.run_model.specs.Between.{IsIn}
use Rattle.joined_data.specs.Types.{Table, TableRow}
use Rattle.joined_data.specs.declared.joined.Clash.{Clash}
use Rattle.joined_data.specs.Merging.{first_clash}
use Rattle.joined_data.specs.Joined.{clash_if, tables_differ}
use Rattle.joined_data.specs.Same.{same_flag, same_column, same_foreign, same_keys, same_schema, contents_differ}
use Rattle.joined_data.proofs.Cuts.{Rising}
use Rattle.joined_data.proofs.Lists.{pointwise_equal}

module _ {X K C : Type 0} (key : X → K) (key_cmp : K → K → Ordering) (total : IsTotalOrder key_cmp) (differ : X → X → Option C) where
  abbrev by_key : X → X → Ordering
  by_key x y = key_cmp (key x) (key y)

  -- what there is to show of two lists
  abbrev Agree : List X → List X → Type 0
  Agree xs ys = (u v : X) → IsIn u xs → IsIn v ys → by_key u v ≡ Equal → differ u v ≡ None

  pub agree : (xs ys : List X) → first_clash by_key differ xs ys ≡ None → Rising key key_cmp xs → Rising key key_cmp ys → Agree xs ys
  agree [] ys none rx ry = λ u v u_in v_in equal. absurd u_in
  agree (x ∷ xs) ys none rx ry = inner ys none ry (λ zs empty rz. agree xs zs empty rx.1 rz)
    where
      inner : (zs : List X) → first_clash by_key differ (x ∷ xs) zs ≡ None → Rising key key_cmp zs
          → ((us : List X) → first_clash by_key differ xs us ≡ None → Rising key key_cmp us → Agree xs us) → Agree (x ∷ xs) zs
      inner [] none rz later = λ u v u_in v_in equal. absurd v_in
      inner (z ∷ zs) none rz later = by (by_key x z) refl none (λ empty. inner zs empty rz.1 later)
        where
          apart : {u v : X} → by_key u v ≡ Less → by_key u v ≡ Equal → ⊥
          apart less equal = let never : Less ≡ Equal = sym less ∙ equal in cc

          by : (o : Ordering) → by_key x z ≡ o
              → match_ordering o (first_clash by_key differ xs (z ∷ zs)) (option_or (differ x z) (first_clash by_key differ xs zs)) (first_clash by_key differ (x ∷ xs) zs) ≡ None
              → (first_clash by_key differ (x ∷ xs) zs ≡ None → Agree (x ∷ xs) zs) → Agree (x ∷ xs) (z ∷ zs)
          by Less is none more u v (inl u_is) (inl v_is) equal =
              absurd (apart is ((λ j. by_key (sym u_is j) (sym v_is j)) ∙ equal))
          by Less is none more u v (inl u_is) (inr v_more) equal =
              absurd (apart (total.trans (key x) (key z) (key v) is (rz.0 v v_more)) (ap (λ (w : X). by_key w v) (sym u_is) ∙ equal))
          by Less is none more u v (inr u_more) v_in equal = later (z ∷ zs) none rz u v u_more v_in equal
          by Equal is none more u v (inl u_is) (inl v_is) equal =
              (λ j. differ (u_is j) (v_is j)) ∙ (or_none (differ x z) (first_clash by_key differ xs zs) none).0
          by Equal is none more u v (inl u_is) (inr v_more) equal =
              absurd (apart (total.congr (key x) (key z) (key v) is ∙ rz.0 v v_more) (ap (λ (w : X). by_key w v) (sym u_is) ∙ equal))
          by Equal is none more u v (inr u_more) (inl v_is) equal =
              let less : by_key z u ≡ Less = sym (total.congr (key x) (key z) (key u) is) ∙ rx.0 u u_more in
              absurd (apart less (tied_back total (key u) (key z) (ap (by_key u) (sym v_is) ∙ equal)))
          by Equal is none more u v (inr u_more) (inr v_more) equal =
              later zs (or_none (differ x z) (first_clash by_key differ xs zs) none).1 rz.1 u v u_more v_more equal
          by Greater is none more u v (inl u_is) (inl v_is) equal =
              let never : Greater ≡ Equal = sym is ∙ (λ j. by_key (sym u_is j) (sym v_is j)) ∙ equal in cc
          by Greater is none more u v (inr u_more) (inl v_is) equal =
              let back : by_key z x ≡ Less = total.antisymm (key z) (key x) ∙ ap ordering_reverse is in
              let less : by_key z u ≡ Less = total.trans (key z) (key x) (key u) back (rx.0 u u_more) in
              absurd (apart less (tied_back total (key u) (key z) (ap (by_key u) (sym v_is) ∙ equal)))
          by Greater is none more u v u_in (inr v_more) equal = more none u v u_in v_more equal

-- ---- what agrees is equal

pub no_clash_if : (b : Bool) (clash : Clash) → clash_if b clash ≡ None → b ≡ false
no_clash_if true clash none = cc
no_clash_if false clash none = refl

-- of two contents that don't differ, the first is the second where that is whole
pub whole_of : (a b : Option (List ℕ)) → contents_differ a b ≡ false → (bytes : List ℕ) → b ≡ Some bytes → option_or a b ≡ Some bytes
whole_of None b agree bytes is = is
whole_of (Some x) None agree bytes is = cc
whole_of (Some x) (Some y) agree bytes is = ap Some (bytes_eq-true x y (not-false (bytes_eq x y) agree)) ∙ is

flags : (a b : Bool) → same_flag a b ≡ true → a ≡ b
flags true true is = refl
flags true false is = cc
flags false true is = cc
flags false false is = refl

columns : (c d : Column) → same_column c d ≡ true → c ≡ d
columns c d is =
    let first = and_parts (bytes_eq c.name d.name) (same_flag c.text d.text && same_flag c.not_null d.not_null) is in
    let rest = and_parts (same_flag c.text d.text) (same_flag c.not_null d.not_null) first.1 in
    λ j. record { name = bytes_eq-true c.name d.name first.0 j; text = flags c.text d.text rest.0 j; not_null = flags c.not_null d.not_null rest.1 j }

foreign_keys : (f g : Foreign) → same_foreign f g ≡ true → f ≡ g
foreign_keys f g is =
    let parts = and_parts (pointwise nat_eq f.columns g.columns) (bytes_eq f.parent g.parent) is in
    λ j. record { columns = bytes_eq-true f.columns g.columns parts.0 j; parent = bytes_eq-true f.parent g.parent parts.1 j }

schemas : (a b : Schema) → same_schema a b ≡ true → a ≡ b
schemas a b is =
    let parts = and_parts (pointwise same_column a.columns b.columns) (same_keys a b) is in
    let keys = and_parts (pointwise nat_eq a.key b.key) (pointwise same_foreign a.foreign b.foreign) parts.1 in
    λ j. record {
      columns = pointwise_equal same_column columns a.columns b.columns parts.0 j;
      key = bytes_eq-true a.key b.key keys.0 j;
      foreign = pointwise_equal same_foreign foreign_keys a.foreign b.foreign keys.1 j;
    }

pub same_tables : (a b : Table) → tables_differ a b ≡ false → (a.schema ≡ b.schema) × (a.next ≡ b.next)
same_tables a b is =
    let parts = and_parts (same_schema a.schema b.schema) (a.next == b.next) (not-false (same_schema a.schema b.schema && a.next == b.next) is) in
    (schemas a.schema b.schema parts.0, nat_eq-true a.next b.next parts.1)

pub same_rows : (a b : TableRow) → not (same_values a.values b.values) ≡ false → a.values ≡ b.values
same_rows a b is =
    all_exact a.values b.values (is_eq-true (values_order a.values b.values) (not-false (same_values a.values b.values) is))
