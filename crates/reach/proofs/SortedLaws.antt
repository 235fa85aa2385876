-- Nodes in the order of the report, each once, are one list.
use Rattle.std.proofs.Common.{◌≡◌, ◌∙◌, sym, ap, subst, refl, inl, inr, ◌⊎◌, ℕ, ◌<◌, Bool, true, false}
use Rattle.std.proofs.Common.{List, [], ◌∷◌, length, Some, None}
use Rattle.std.specs.Prelude.{Contains, slice_get, if◌then◌else◌}
use Rattle.std.specs.List.{AllByRecursion, filter_map}
use Rattle.std.specs.List.Sorted.{IsStrictlySortedBy}
use Rattle.std.specs.Ordering.{is_eq}
use Rattle.std.specs.declared.cmp.Ordering.TheVariants.{Less}
use Rattle.std.proofs.lemmas.Bool.{false≢true}
use Rattle.std.proofs.lemmas.Cmp.{eq_by_cmp_equiv}
use Rattle.std.proofs.lemmas.List.Elements.{All-from_recursion, All-contains}
use Rattle.std.proofs.lemmas.Option.{none-some, slice_get_within}
use Rattle.trace_graph.specs.Graph.{Parts}
use Rattle.reach.specs.Types.{Node, Edge}
use Rattle.reach.specs.Order.{node_cmp}
use Rattle.reach.specs.Found.{Times, is_open, open_source, open_sources}
use Rattle.reach.specs.inner.Marks.{Marks, marks_of, is_marked, marked_at, marked_below, SameNodes}
use Rattle.reach.proofs.FoundLaws.{node_exact}
use Rattle.reach.proofs.MarkLaws.{open_from_mark, mark_from_open, place_of_marked, marked_of_place}
use Rattle.reach.proofs.Members.{in_nil, in_head, in_tail, in_cons, in_all, from_all, in_filter_map, from_filter_map}
use Rattle.reach.proofs.OrderLaws.{node_total, in_order_sorted}

-- ---- two sorted lists

-- no node is below itself
below_itself : (n : Node) → node_cmp n n ≡ Less → ⊥
below_itself n less = false≢true (sym (ap is_eq less) ∙ (eq_by_cmp_equiv node_total).refl n)

above : (x : Node) (xs : List Node) (n : Node) → AllByRecursion (λ y. node_cmp x y ≡ Less) xs → Contains xs n → node_cmp x n ≡ Less
above x xs n all at = All-contains (λ y. node_cmp x y ≡ Less) xs n (All-from_recursion (λ y. node_cmp x y ≡ Less) xs all) at

-- the heads of two sorted lists with the same nodes are one
heads : (x : Node) (xs : List Node) (y : Node) (ys : List Node) → AllByRecursion (λ z. node_cmp x z ≡ Less) xs → AllByRecursion (λ z. node_cmp y z ≡ Less) ys
    → Contains (y ∷ ys) x → Contains (x ∷ xs) y → y ≡ x
heads x xs y ys over_x over_y at_x at_y = by (in_cons y ys x at_x) (in_cons x xs y at_y)
  where
    by : (y ≡ x) ⊎ Contains ys x → (x ≡ y) ⊎ Contains xs y → y ≡ x
    by (inl same) there = same
    by (inr later) (inl same) = sym same
    by (inr later) (inr there) =
        absurd (below_itself x (node_total.trans x y x (above x xs y over_x there) (above y ys x over_y later)))

-- what is left of the one is in what is left of the other
tails : (x : Node) (xs : List Node) (y : Node) (ys : List Node) → AllByRecursion (λ z. node_cmp x z ≡ Less) xs → y ≡ x
    → ((n : Node) → Contains (x ∷ xs) n → Contains (y ∷ ys) n) → (n : Node) → Contains xs n → Contains ys n
tails x xs y ys over_x same to n at = by (in_cons y ys n (to n (in_tail x xs n at)))
  where
    by : (y ≡ n) ⊎ Contains ys n → Contains ys n
    by (inl here) = absurd (below_itself x (subst (λ (m : Node). node_cmp x m ≡ Less) (sym here ∙ same) (above x xs n over_x at)))
    by (inr later) = later

same_sorted : (xs ys : List Node) → IsStrictlySortedBy node_cmp xs → IsStrictlySortedBy node_cmp ys
    → ((n : Node) → Contains xs n → Contains ys n) → ((n : Node) → Contains ys n → Contains xs n) → xs ≡ ys
unfolding IsStrictlySortedBy
same_sorted [] [] sorted_xs sorted_ys to back = refl
same_sorted [] (y ∷ ys) sorted_xs sorted_ys to back = in_nil y (back y (in_head y ys))
same_sorted (x ∷ xs) [] sorted_xs sorted_ys to back = in_nil x (to x (in_head x xs))
same_sorted (x ∷ xs) (y ∷ ys) sorted_xs sorted_ys to back =
    let same : y ≡ x = heads x xs y ys sorted_xs.0 sorted_ys.0 (to x (in_head x xs)) (back y (in_head y ys)) in
    let rest : xs ≡ ys = same_sorted xs ys sorted_xs.1 sorted_ys.1 (tails x xs y ys sorted_xs.0 same to) (tails y ys x xs sorted_ys.0 (sym same) back) in
    λ j. sym same j ∷ rest j

-- ---- marked nodes are those that open edges come from

module _ (nodes : List Node) (edges : List Edge) (latest : Times) where
  abbrev marks : Marks
  marks = marks_of (length nodes) latest edges

  abbrev marked : List Node
  marked = marked_below nodes marks (length nodes)

  abbrev graph : Parts
  graph = record { nodes = nodes; edges = edges }

  at_mark : (p : ℕ) (n : Node) → marked_at nodes marks p ≡ Some n → (is_marked marks p ≡ true) × (slice_get nodes p ≡ Some n)
  at_mark p n = by (is_marked marks p)
    where
      by : (b : Bool) → (if b then slice_get nodes p else None) ≡ Some n → (b ≡ true) × (slice_get nodes p ≡ Some n)
      by true is = (refl, is)
      by false is = absurd (none-some n is)

  at_source : (e : Edge) (n : Node) → open_source nodes latest e ≡ Some n → (is_open latest e ≡ true) × (slice_get nodes e.source ≡ Some n)
  at_source e n = by (is_open latest e)
    where
      by : (b : Bool) → (if b then slice_get nodes e.source else None) ≡ Some n → (b ≡ true) × (slice_get nodes e.source ≡ Some n)
      by true is = (refl, is)
      by false is = absurd (none-some n is)

  marked_open : (n : Node) → Contains marked n → Contains (open_sources graph latest) n
  marked_open n at =
      let found = place_of_marked nodes marks (length nodes) n at in
      let parts = at_mark found.0 n found.2 in
      let opened = open_from_mark (length nodes) latest edges found.0 found.1 parts.0 in
      let e : Edge = opened.0 in
      let there : slice_get nodes e.source ≡ Some n = subst (λ (p : ℕ). slice_get nodes p ≡ Some n) (sym opened.3) parts.1 in
      let source : open_source nodes latest e ≡ Some n = ap (λ (b : Bool). if b then slice_get nodes e.source else None) opened.2 ∙ there in
      in_all node_exact [] (filter_map (open_source nodes latest) edges) n
      (inr (in_filter_map (open_source nodes latest) edges e n opened.1 source))

  open_marked : (n : Node) → Contains (open_sources graph latest) n → Contains marked n
  open_marked n at = by (from_all node_exact [] (filter_map (open_source nodes latest) edges) n at)
    where
      by : Contains [] n ⊎ Contains (filter_map (open_source nodes latest) edges) n → Contains marked n
      by (inl none) = in_nil n none
      by (inr some) =
          let found = from_filter_map (open_source nodes latest) edges n some in
          let e : Edge = found.0 in
          let parts = at_source e n found.2 in
          let within : e.source < length nodes = slice_get_within nodes e.source n parts.1 in
          let mark = mark_from_open (length nodes) latest edges e.source within (e, found.1, parts.0, refl) in
          marked_of_place nodes marks (length nodes) e.source n within
          (ap (λ (b : Bool). if b then slice_get nodes e.source else None) mark ∙ parts.1)

  pub sorted_open : (taken sorted : List Node) → taken ≡ marked → SameNodes taken sorted → IsStrictlySortedBy node_cmp sorted
      → sorted ≡ open_sources graph latest
  sorted_open taken sorted is same once =
      same_sorted sorted (open_sources graph latest) once (in_order_sorted (filter_map (open_source nodes latest) edges))
      (λ n at. marked_open n (subst (λ (l : List Node). Contains l n) is ((same n).1 at)))
      (λ n at. (same n).0 (subst (λ (l : List Node). Contains l n) (sym is) (open_marked n at)))
