-- Ordered pairs of a key and a number, and the first number under a key.
use Rattle.std.proofs.Common.{◌≡◌, ℕ, ◌<◌, ◌≤◌, List, [], ◌∷◌, refl, sym, ap, subst, ◌∙◌, Bool, true, false, cond, inl, inr, arith, Option, Some, None}
use Rattle.std.specs.Prelude.{slice_get, IfSome, if◌then◌else◌}
use Rattle.std.specs.BTreeMap.{is_at}
use Rattle.std.specs.BTreeMap.Range.{IsInRange, IsLeBy}
use Rattle.std.specs.BTreeSet.{BTreeSet, IsEmpty, IsKeyInRange, IsKeyRangeOf, IsUnchanged, Updates}
use Rattle.std.specs.Cmp.{IsTotalOrder, nat_cmp_is}
use Rattle.std.specs.List.{list_any}
use Rattle.std.specs.Ordering.{is_eq, is_gt, nat_cmp, ordering_then, ordering_reverse}
use Rattle.std.specs.declared.cmp.Ordering.{Ordering}
use Rattle.std.specs.declared.cmp.Ordering.TheVariants.{Less, Equal, Greater}
use Rattle.std.specs.declared.ops.Bound.TheVariants.{Included, Unbounded}
use Rattle.std.proofs.lemmas.Bool.{cases_lt}
use Rattle.std.proofs.lemmas.Cmp.{tied_itself}
use Rattle.ldv_value.proofs.Booleans.{not-so, true≢false}
use Rattle.table_store.specs.inner.ChildPairs.{IsFirstFrom, has_pair, pair_order}

-- ---- numbers, compared

gt_is : (m n : ℕ) → n < m → is_gt (nat_cmp m n) ≡ true
gt_is m n above = ap is_gt (sym (nat_cmp_is m n Greater above))

gt_not : (m n : ℕ) → is_gt (nat_cmp m n) ≡ false → m ≤ n
gt_not m n is = elim (cases_lt n m) [
  | inl above ↦ absurd (true≢false (sym (gt_is m n above) ∙ is))
  | inr within ↦ within
]

not_gt : (m n : ℕ) → m ≤ n → is_gt (nat_cmp m n) ≡ false
not_gt m n within = elim (cases_lt m n) [
  | inl less ↦ ap is_gt (sym (nat_cmp_is m n Less less))
  | inr from ↦
      let same : m ≡ n = omega (arith, within, from) in
      ap is_gt (sym (nat_cmp_is m n Equal same))
]

module _ {K : Type 0} (cmp : K → K → Ordering) where
  abbrev order : K × ℕ → K × ℕ → Ordering
  order = pair_order cmp

  pub no_pair : (set : BTreeSet (K × ℕ)) → IsEmpty set → (key : K) (n : ℕ) → has_pair cmp set key n ≡ false
  no_pair set empty key n = ap (list_any (is_at (order (key, n)))) empty

  -- ---- a pair more

  either : (b : Bool) → cond b true true ≡ true
  either true = refl
  either false = refl

  pub pair_kept : (old new : BTreeSet (K × ℕ)) (made : K × ℕ) → Updates order old new made true → (key : K) (n : ℕ)
      → has_pair cmp old key n ≡ true → has_pair cmp new key n ≡ true
  pair_kept old new made updates key n is =
      updates.0 (key, n) ∙ ap (λ (b : Bool). cond (is_at (order made) (key, n)) true b) is ∙ either (is_at (order made) (key, n))

  pub pair_same : (old new : BTreeSet (K × ℕ)) → IsUnchanged old new → (key : K) (n : ℕ) → has_pair cmp old key n ≡ true → has_pair cmp new key n ≡ true
  pair_same old new same key n is = ap (list_any (is_at (order (key, n)))) same ∙ is

  -- ---- a pair less

  pub pair_left : (old new : BTreeSet (K × ℕ)) (gone : K × ℕ) → Updates order old new gone false → (key : K) (n : ℕ) → is_eq (ordering_then (cmp gone.0 key) (nat_cmp gone.1 n)) ≡ false
      → has_pair cmp old key n ≡ true → has_pair cmp new key n ≡ true
  pair_left old new gone updates key n other is = updates.2 (key, n) other ∙ is

  -- ---- the first pair of a part

  module _ (total : IsTotalOrder cmp) (set : BTreeSet (K × ℕ)) (key : K) (from : ℕ) (r : List (K × ℕ))
      (part : IsKeyRangeOf order (Included (key, from)) Unbounded set r) where
    abbrev has : ℕ → Bool
    has n = has_pair cmp set key n

    in_range : (n : ℕ) → from ≤ n → IsInRange order (Included (key, from)) Unbounded (key, n)
    in_range n within = (ap (λ (o : Ordering). is_gt (ordering_then o (nat_cmp from n))) (tied_itself total key) ∙ not_gt from n within, tt)

    pub first_none : r ≡ [] → IsFirstFrom has from None
    first_none none = λ n within. part.5 none (key, n) (in_range n within)

    module _ (e : K × ℕ) (t : List (K × ℕ)) (is : r ≡ e ∷ t) where
      first : slice_get r 0 ≡ Some e
      first = ap (λ (l : List (K × ℕ)). slice_get l 0) is

      inside : IsKeyInRange order (Included (key, from)) Unbounded set e
      inside = subst (λ (o : Option (K × ℕ)). IfSome o (IsKeyInRange order (Included (key, from)) Unbounded set)) first part.1

      least : (n : ℕ) → from ≤ n → has n ≡ true → is_gt (order e (key, n)) ≡ false
      least n within there = subst (λ (o : Option (K × ℕ)). IfSome o (λ k. IsLeBy order k (key, n))) first (part.2 (key, n) (in_range n within) there)

      by : (o : Ordering) → cmp e.0 key ≡ o → IsFirstFrom has from (if is_eq o then Some e.1 else None)
      by Equal tied =
          let back : cmp key e.0 ≡ Equal = total.antisymm key e.0 ∙ ap ordering_reverse tied in
          let above : from ≤ e.1 = gt_not from e.1 (sym (ap (λ (o : Ordering). is_gt (ordering_then o (nat_cmp from e.1))) back) ∙ inside.0.0) in
          let there : has e.1 ≡ true = (λ j. list_any (λ (x : K × ℕ). is_eq (ordering_then (total.congr key e.0 x.0 back j) (nat_cmp e.1 x.1))) set.keys) ∙ inside.1 in (
            above,
            there,
            λ n within below. not-so (has n) (λ one.
                let le : e.1 ≤ n = gt_not e.1 n (sym (ap (λ (o : Ordering). is_gt (ordering_then o (nat_cmp e.1 n))) tied) ∙ least n within one) in
                omega (arith, le, below)),
          )
      by Less tied =
          let back : cmp key e.0 ≡ Greater = total.antisymm key e.0 ∙ ap ordering_reverse tied in
          absurd (true≢false (sym (ap (λ (o : Ordering). is_gt (ordering_then o (nat_cmp from e.1))) back) ∙ inside.0.0))
      by Greater tied = λ n within. not-so (has n) (λ one.
          true≢false (sym (ap (λ (o : Ordering). is_gt (ordering_then o (nat_cmp e.1 n))) tied) ∙ least n within one))

      pub first_some : IsFirstFrom has from (if is_eq (cmp e.0 key) then Some e.1 else None)
      first_some = by (cmp e.0 key) refl
