-- Keys that are sorted, without doubles, name the same nodes, in the order of the report, each once.
use Rattle.std.proofs.Common.{◌≡◌, ◌∙◌, sym, ap, subst, inl, inr, ◌⊎◌, Bool, true, List, [], ◌∷◌, map, Bor}
use Rattle.std.specs.Prelude.{Contains}
use Rattle.std.specs.List.{dedup}
use Rattle.std.specs.List.Retain.{IsFiltered, DiffersFromLast}
use Rattle.std.specs.List.Sorted.{IsPermutation, IsSorted, IsStrictlySortedBy}
use Rattle.std.specs.Cmp.{IsEquivalence, IsTotalOrder, Equal-is, both_ways}
use Rattle.std.specs.Ordering.{is_eq, eq_by_cmp}
use Rattle.std.specs.declared.cmp.Ordering.{Ordering}
use Rattle.std.proofs.lemmas.Cmp.{eq_by_cmp_equiv, on_total}
use Rattle.std.proofs.lemmas.List.Filters.{dedup_is}
use Rattle.std.proofs.lemmas.List.Kept.{IsStrictlySortedBy-dedup, Contains-from_dedup, Any-dedup}
use Rattle.std.proofs.lemmas.List.Sorted.{Contains-permutation, IsPermutation-sym}
use Rattle.trace_graph.specs.declared.key.NodeKey.{NodeKey}
use Rattle.trace_graph.specs.Graph.{same_node}
use Rattle.trace_graph.proofs.KeyLaws.{same_key, key_same}
use Rattle.trace_graph.proofs.NodeLaws.{node_is, node_itself}
use Rattle.reach.specs.Types.{Node}
use Rattle.reach.specs.Lent.{lent_node}
use Rattle.reach.specs.Order.{node_cmp}
use Rattle.reach.specs.inner.Marks.{SameNodes}
use Rattle.reach.proofs.FoundLaws.{node_exact}
use Rattle.reach.proofs.KeyLaws.{lent_cmp, lent_ordered, keys_sorted}
use Rattle.reach.proofs.Members.{in_nil, in_head, in_tail, in_cons, in_same}
use Rattle.reach.proofs.OrderLaws.{node_total}

lent_total : IsTotalOrder lent_cmp
lent_total =
    subst (λ (cmp : Bor NodeKey → Bor NodeKey → Ordering). IsTotalOrder cmp) (λ j a b. sym (lent_ordered a b) j) (on_total lent_node node_total)

-- ---- keys are the same where no order tells them apart

abbrev pub same_lent : Bor NodeKey → Bor NodeKey → Bool
same_lent a b = same_key a.now b.now

node_ties : (n m : Node) → same_node n m ≡ eq_by_cmp node_cmp n m
node_ties n m = both_ways (same_node n m) (eq_by_cmp node_cmp n m) there back
  where
    there : same_node n m ≡ true → eq_by_cmp node_cmp n m ≡ true
    there same = subst (λ (k : Node). eq_by_cmp node_cmp n k ≡ true) (node_is n m same) ((eq_by_cmp_equiv node_total).refl n)

    back : eq_by_cmp node_cmp n m ≡ true → same_node n m ≡ true
    back tied =
        subst (λ (k : Node). same_node n k ≡ true) (node_exact n m ((Equal-is (node_cmp n m)).0 tied)) (node_itself n)

key_ties : (a b : Bor NodeKey) → same_lent a b ≡ eq_by_cmp lent_cmp a b
key_ties a b = key_same a.now b.now ∙ node_ties (lent_node a) (lent_node b) ∙ sym (ap is_eq (lent_ordered a b))

key_equiv : IsEquivalence same_lent
key_equiv =
    subst (λ (same : Bor NodeKey → Bor NodeKey → Bool). IsEquivalence same) (λ j a b. sym (key_ties a b) j) (eq_by_cmp_equiv lent_total)

-- ---- nodes of keys

named_in : (ks : List (Bor NodeKey)) (k : Bor NodeKey) → Contains ks k → Contains (map lent_node ks) (lent_node k)
named_in [] k at = in_nil k at
named_in (x ∷ xs) k at = elim (in_cons x xs k at) [
  | inl same ↦ in_same (lent_node x) (map lent_node xs) (lent_node k) (ap lent_node same)
  | inr rest ↦ in_tail (lent_node x) (map lent_node xs) (lent_node k) (named_in xs k rest)
]

key_named : (ks : List (Bor NodeKey)) (n : Node) → Contains (map lent_node ks) n → (k : Bor NodeKey) × Contains ks k × (lent_node k ≡ n)
key_named [] n at = in_nil n at
key_named (x ∷ xs) n at = by (key_named xs n) (in_cons (lent_node x) (map lent_node xs) n at)
  where
    by : (Contains (map lent_node xs) n → (k : Bor NodeKey) × Contains xs k × (lent_node k ≡ n)) → (lent_node x ≡ n) ⊎ Contains (map lent_node xs) n
        → (k : Bor NodeKey) × Contains (x ∷ xs) k × (lent_node k ≡ n)
    by more (inl same) = (x, in_head x xs, same)
    by more (inr rest) =
        let found = more rest in
        (found.0, in_tail x xs found.0 found.1, found.2)

module _ (keys sorted once : List (Bor NodeKey)) (moved : IsPermutation keys sorted) (ordered : IsSorted lent_cmp sorted)
    (left : IsFiltered (DiffersFromLast same_lent) [] sorted once) where
  once_is : once ≡ dedup same_lent sorted
  once_is = dedup_is same_lent sorted once left

  pub once_sorted : IsStrictlySortedBy node_cmp (map lent_node once)
  once_sorted =
      keys_sorted once
      (subst (λ (ks : List (Bor NodeKey)). IsStrictlySortedBy lent_cmp ks) (sym once_is) (IsStrictlySortedBy-dedup lent_total key_ties sorted ordered))

  kept : (n : Node) → Contains (map lent_node keys) n → Contains (map lent_node once) n
  kept n at =
      let found = key_named keys n at in
      let there : Contains sorted found.0 = Contains-permutation keys sorted found.0 moved found.1 in
      let one = Any-dedup key_equiv sorted found.0 there in
      let like : Bor NodeKey = one.1 in
      let in_once : Contains once like = subst (λ (ks : List (Bor NodeKey)). Contains ks like) (sym once_is) (one.0, one.2, one.3) in
      let named : lent_node found.0 ≡ lent_node like =
      node_is (lent_node found.0) (lent_node like) (sym (key_same found.0.now like.now) ∙ one.4) in
      subst (λ (m : Node). Contains (map lent_node once) m) (sym named ∙ found.2) (named_in once like in_once)

  taken : (n : Node) → Contains (map lent_node once) n → Contains (map lent_node keys) n
  taken n at =
      let found = key_named once n at in
      let there : Contains sorted found.0 =
      Contains-from_dedup same_lent sorted found.0 (subst (λ (ks : List (Bor NodeKey)). Contains ks found.0) once_is found.1) in
      let first : Contains keys found.0 = Contains-permutation sorted keys found.0 (IsPermutation-sym keys sorted moved) there in
      subst (λ (m : Node). Contains (map lent_node keys) m) found.2 (named_in keys found.0 first)

  pub once_same : SameNodes (map lent_node keys) (map lent_node once)
  once_same n = (kept n, taken n)
