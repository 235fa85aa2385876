-- The rows of blocks, in their order.
use Rattle.std.proofs.Common.{◌≡◌, ◌∙◌, sym, ap, subst, refl, ℕ, zero, suc, ◌+◌, ◌-◌, ◌*◌, ◌<◌, ◌≤◌, inl, inr, T, List, [], ◌∷◌, ◌++◌, map, Option, Some, None, arith}
use Rattle.std.specs.declared.cmp.Ordering.{Ordering}
use Rattle.std.specs.declared.cmp.Ordering.TheVariants.{Less, Equal}
use Rattle.std.specs.List.{AllByRecursion}
use Rattle.std.specs.List.Sorted.{IsStrictlySortedBy}
use Rattle.std.specs.Ordering.{nat_cmp, is_lt, ordering_then}
use Rattle.std.specs.Cmp.{ranked, nat_cmp_is}
use Rattle.std.specs.Map.{keys_of}
use Rattle.std.specs.BTreeMap as tree
use Rattle.std.specs.BTreeMap.{BTreeMap}
use Rattle.std.specs.FinMap.{is_sorted, entries, from_entries}
use Rattle.std.specs.FinMap.Entries.{below_all}
use Rattle.lineage.specs.inner.Blocks.{with_row, rows_from, rows_of_block, rows_under, all_rows, row_at}
use Rattle.lineage.specs.Lineage.{Row, row_cmp, Lineage, member, members_of}
use Rattle.lineage.specs.declared.blocks.Block.{Block}
use Rattle.lineage.proofs.Laws.{row_total}
use Rattle.lineage.proofs.Listed.{then_less}
use Rattle.ldv_value.proofs.Booleans.{t-first, t-second, t-both}
use Rattle.ldv_value.proofs.SortedMaps.{entries-sorted}

-- ---- one row below another

is_less : (r : Ordering) → r ≡ Less → T (is_lt r)
is_less r is = subst (λ (o : Ordering). T (is_lt o)) (sym is) tt

less_within : (t a b : ℕ) → a < b → row_cmp (t, a) (t, b) ≡ Less
less_within t a b below = (λ j. ordering_then (sym (nat_cmp_is t t Equal refl) j) (sym (nat_cmp_is a b Less below) j))

less_across : (p q : Row) (i k : ℕ) → row_cmp p q ≡ Less → i < 65536 → row_cmp (p.0, 65536 * p.1 + i) (q.0, 65536 * q.1 + k) ≡ Less
less_across p q i k below within = elim (then_less (nat_cmp p.0 q.0) (nat_cmp p.1 q.1) below) [
  | inl earlier ↦ ap (λ (o : Ordering). ordering_then o (nat_cmp (65536 * p.1 + i) (65536 * q.1 + k))) earlier
  | inr same ↦
      let lower : p.1 < q.1 = ranked p.1 q.1 Less (sym same.1) in
      (λ j. ordering_then (same.0 j) (sym (nat_cmp_is (65536 * p.1 + i) (65536 * q.1 + k) Less (omega (arith, lower, within))) j))
]

-- ---- below all rows of a list

below_with : (r row : Row) (o : Option ℕ) (rows : List (Row × ℕ)) → row_cmp r row ≡ Less → T (below_all row_cmp r rows) → T (below_all row_cmp r (with_row row o rows))
below_with r row None rows less below = below
below_with r row (Some v) rows less below = t-both _ _ (is_less (row_cmp r row) less) below

below_append : (r : Row) (xs ys : List (Row × ℕ)) → T (below_all row_cmp r xs) → T (below_all row_cmp r ys) → T (below_all row_cmp r (xs ++ ys))
below_append r [] ys first second = second
below_append r (x ∷ xs) ys first second = t-both _ _ (t-first _ _ first) (below_append r xs ys (t-second _ _ first) second)

sorted_append : (xs ys : List (Row × ℕ)) → T (is_sorted row_cmp xs) → AllByRecursion (λ e. T (below_all row_cmp e.0 ys)) xs → T (is_sorted row_cmp ys) → T (is_sorted row_cmp (xs ++ ys))
sorted_append [] ys first between second = second
sorted_append (x ∷ xs) ys first between second =
    t-both _ _ (below_append x.0 xs ys (t-first _ _ first) between.0) (sorted_append xs ys (t-second _ _ first) between.1 second)

all_with : (P : Row × ℕ → Type 0) (row : Row) (o : Option ℕ) (rows : List (Row × ℕ)) → ((v : ℕ) → P (row, v)) → AllByRecursion P rows → AllByRecursion P (with_row row o rows)
all_with P row None rows this rest = rest
all_with P row (Some v) rows this rest = (this v, rest)

sorted_with : (row : Row) (o : Option ℕ) (rows : List (Row × ℕ)) → T (below_all row_cmp row rows) → T (is_sorted row_cmp rows) → T (is_sorted row_cmp (with_row row o rows))
sorted_with row None rows below rest = rest
sorted_with row (Some v) rows below rest = t-both _ _ below rest

module _ (found : ℕ → Option ℕ) (table base : ℕ) where
  below_from : (count n : ℕ) (r : Row) → ((i : ℕ) → n ≤ i → row_cmp r (table, base + i) ≡ Less) → T (below_all row_cmp r (rows_from found table base count n))
  below_from zero n r less = tt
  below_from (suc count) n r less =
      below_with r (table, base + n) (found n) (rows_from found table base count (suc n)) (less n (omega arith))
      (below_from count (suc n) r (λ i on. less i (omega (arith, on))))

  sorted_from : (count n : ℕ) → T (is_sorted row_cmp (rows_from found table base count n))
  sorted_from zero n = tt
  sorted_from (suc count) n =
      sorted_with (table, base + n) (found n) (rows_from found table base count (suc n))
      (below_from count (suc n) (table, base + n) (λ i on. less_within table (base + n) (base + i) (omega (arith, on))))
      (sorted_from count (suc n))

  all_from : (P : Row × ℕ → Type 0) (count n : ℕ) → ((i v : ℕ) → i < n + count → P ((table, base + i), v)) → AllByRecursion P (rows_from found table base count n)
  all_from P zero n each = tt
  all_from P (suc count) n each =
      all_with P (table, base + n) (found n) (rows_from found table base count (suc n)) (λ v. each n v (omega arith))
      (all_from P count (suc n) (λ i v below. each i v (omega (arith, below))))

  -- ---- the rows that are left

  skipped : (d count n : ℕ) → ((i : ℕ) → n ≤ i → i < n + d → found i ≡ None) → rows_from found table base (d + count) n ≡ rows_from found table base count (n + d)
  skipped zero count n none =
      let fewer : 0 + count ≡ count = omega arith in
      let same : n ≡ n + 0 = omega arith in
      ap (λ (k : ℕ). rows_from found table base k n) fewer ∙ ap (rows_from found table base count) same
  skipped (suc d) count n none =
      let more : suc d + count ≡ suc (d + count) = omega arith in
      let same : suc n + d ≡ n + suc d = omega arith in
      ap (λ (k : ℕ). rows_from found table base k n) more
      ∙ ap (λ (o : Option ℕ). with_row (table, base + n) o (rows_from found table base (d + count) (suc n))) (none n (omega arith) (omega arith))
      ∙ skipped d count (suc n) (λ i on below. none i (omega (arith, on)) (omega (arith, below)))
      ∙ ap (rows_from found table base count) same

  pub next_row : (end n least v : ℕ) → n ≤ least → least < end → found least ≡ Some v → ((i : ℕ) → n ≤ i → i < least → found i ≡ None)
      → rows_from found table base (end - n) n ≡ ((table, base + least), v) ∷ rows_from found table base (end - (least + 1)) (least + 1)
  next_row end n least v on within is none =
      let parts : end - n ≡ (least - n) + suc (end - (least + 1)) = omega (arith, on, within) in
      let at : n + (least - n) ≡ least = omega (arith, on) in
      let after : suc least ≡ least + 1 = omega arith in
      ap (λ (k : ℕ). rows_from found table base k n) parts
      ∙ skipped (least - n) (suc (end - (least + 1))) n (λ i from below. none i from (omega (arith, from, below, on)))
      ∙ ap (rows_from found table base (suc (end - (least + 1)))) at
      ∙ ap (λ (o : Option ℕ). with_row (table, base + least) o (rows_from found table base (end - (least + 1)) (suc least))) is
      ∙ ap (λ (k : ℕ). ((table, base + least), v) ∷ rows_from found table base (end - (least + 1)) k) after

  pub no_row : (count n : ℕ) → ((i : ℕ) → n ≤ i → found i ≡ None) → rows_from found table base count n ≡ []
  no_row zero n none = refl
  no_row (suc count) n none =
      ap (λ (o : Option ℕ). with_row (table, base + n) o (rows_from found table base count (suc n))) (none n (omega arith))
      ∙ no_row count (suc n) (λ i on. none i (omega (arith, on)))

-- ---- all blocks

sorted_block : (o : Option Block) (p : Row) → T (is_sorted row_cmp (rows_of_block o p))
unfolding rows_of_block
sorted_block o p = sorted_from (row_at o) p.0 (65536 * p.1) 65536 0

below_under : (at : Row → Option Block) (p : Row) (i : ℕ) → i < 65536 → (ps : List Row) → AllByRecursion (λ q. row_cmp p q ≡ Less) ps
    → T (below_all row_cmp (p.0, 65536 * p.1 + i) (rows_under at ps))
unfolding rows_of_block
below_under at p i within [] less = tt
below_under at p i within (q ∷ ps) less =
    below_append (p.0, 65536 * p.1 + i) (rows_of_block (at q) q) (rows_under at ps)
    (below_from (row_at (at q)) q.0 (65536 * q.1) 65536 0 (p.0, 65536 * p.1 + i) (λ k on. less_across p q i k less.0 within))
    (below_under at p i within ps less.1)

between : (at : Row → Option Block) (p : Row) (ps : List Row) → AllByRecursion (λ q. row_cmp p q ≡ Less) ps
    → AllByRecursion (λ e. T (below_all row_cmp e.0 (rows_under at ps))) (rows_of_block (at p) p)
unfolding rows_of_block
between at p ps less = all_from (row_at (at p)) p.0 (65536 * p.1) (λ e. T (below_all row_cmp e.0 (rows_under at ps))) 65536 0 (λ i v within. below_under at p i within ps less)

sorted_under : (at : Row → Option Block) (ps : List Row) → IsStrictlySortedBy row_cmp ps → T (is_sorted row_cmp (rows_under at ps))
unfolding IsStrictlySortedBy
sorted_under at [] sorted = tt
sorted_under at (p ∷ ps) sorted = sorted_append (rows_of_block (at p) p) (rows_under at ps) (sorted_block (at p) p) (between at p ps sorted.0) (sorted_under at ps sorted.1)

-- the members of the set are its rows in their order
pub listed_blocks : (names : List (List ℕ)) (m : BTreeMap Row Block) (set : Lineage) → IsStrictlySortedBy row_cmp (keys_of m.entries) → from_entries (all_rows m) ≡ set
    → map (member names) (all_rows m) ≡ members_of names set
listed_blocks names m set sorted seen = ap (map (member names))
    (sym (entries-sorted row_total (all_rows m) (sorted_under (tree.get row_cmp m) (keys_of m.entries) sorted)) ∙ ap (λ (s : Lineage). entries s) seen)
