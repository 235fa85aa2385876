-- An open edge comes from a node if and only if a path leads from it to the searched node.
use Rattle.std.proofs.Common.{◌≡◌, ◌∙◌, sym, ap, subst, refl, inl, inr, ◌⊎◌, ℕ, Bool, true, false}
use Rattle.std.proofs.Common.{List, [], Some, None}
use Rattle.std.specs.Prelude.{◌↔◌, Contains, slice_get, if◌then◌else◌, IfOk, Result, Ok, Err}
use Rattle.std.specs.List.{filter_map}
use Rattle.std.specs.List.Sorted.{IsStrictlySortedBy}
use Rattle.std.specs.Ordering.{nat_cmp, ordering_then}
use Rattle.std.specs.Cmp.Lexicographic.{slice_cmp}
use Rattle.std.proofs.lemmas.Map.Lookups.{CmpEqualImpliesEq, exact_unsigned, exact_bytes, exact_pairs}
use Rattle.std.proofs.lemmas.Option.{none-some}
use Rattle.trace_graph.specs.Graph.{Parts}
use Rattle.reach.specs.Types.{Node, Path, Process, Row, Ask, Reply, Edge}
use Rattle.reach.specs.Order.{version_cmp, node_cmp}
use Rattle.reach.specs.Reach.{IsSource, AreSources}
use Rattle.reach.specs.Found.{Times, is_open, open_source, open_sources}
use Rattle.reach.specs.inner.Search.{AreLatest}
use Rattle.reach.proofs.Members.{in_nil, in_all, from_all, in_filter_map, from_filter_map}
use Rattle.reach.proofs.PathLaws.{open_leads, leads_open}

-- ---- what two clauses say of one value

pub ok_both : {X E : Type 0} (r : Result X E) (P Q R : X → Type 0) → ((x : X) → P x → Q x → R x) → IfOk r P → IfOk r Q → IfOk r R
ok_both (Ok x) P Q R to p q = to x p q
ok_both (Err e) P Q R to p q = tt

-- ---- nodes that compare alike are one

version_exact : CmpEqualImpliesEq version_cmp
version_exact a b is =
    ap (λ (p : List ℕ × (ℕ × ℕ)). record { table = p.0; row = p.1.0; version = p.1.1 })
    (exact_pairs (slice_cmp nat_cmp) (λ (x y : ℕ × ℕ). ordering_then (nat_cmp x.0 y.0) (nat_cmp x.1 y.1)) exact_bytes
    (exact_pairs nat_cmp nat_cmp exact_unsigned exact_unsigned)
    (a.table, (a.row, a.version)) (b.table, (b.row, b.version)) is)

pub node_exact : CmpEqualImpliesEq node_cmp
node_exact (Path a) (Path b) is = ap Path (exact_bytes a b is)
node_exact (Process a) (Process b) is = ap Process (exact_unsigned a b is)
node_exact (Row a) (Row b) is = ap Row (version_exact a b is)
node_exact (Ask a) (Ask b) is = ap Ask (exact_unsigned a b is)
node_exact (Reply a) (Reply b) is = ap Reply (exact_unsigned a b is)
node_exact a b is = cc

-- a graph is made of its nodes and edges
pub in_graph : (graph : Parts) (nodes : List Node) (edges : List Edge) → nodes ≡ graph.nodes → edges ≡ graph.edges
    → ◌≡◌ {A = Parts} (record { nodes = nodes; edges = edges }) graph
in_graph graph nodes edges nodes_are edges_are = λ j. record { nodes = nodes_are j; edges = edges_are j }

-- ---- both ways

module _ (graph : Parts) (node time : ℕ) (latest : Times) (are : AreLatest graph.edges node time latest) where
  source_of : (edge : Edge) → is_open latest edge ≡ true → open_source graph.nodes latest edge ≡ slice_get graph.nodes edge.source
  source_of edge is = ap (λ (b : Bool). if b then slice_get graph.nodes edge.source else None) is

  open_from : (edge : Edge) (source : Node) → open_source graph.nodes latest edge ≡ Some source
      → (is_open latest edge ≡ true) × (slice_get graph.nodes edge.source ≡ Some source)
  open_from edge source = by (is_open latest edge)
    where
      by : (b : Bool) → (if b then slice_get graph.nodes edge.source else None) ≡ Some source → (b ≡ true) × (slice_get graph.nodes edge.source ≡ Some source)
      by true is = (refl, is)
      by false is = absurd (none-some source is)

  from_open : (source : Node) → Contains (open_sources graph latest) source → IsSource graph node time source
  from_open source at = by (from_all node_exact [] (filter_map (open_source graph.nodes latest) graph.edges) source at)
    where
      by : Contains [] source ⊎ Contains (filter_map (open_source graph.nodes latest) graph.edges) source → IsSource graph node time source
      by (inl none) = in_nil source none
      by (inr some) =
          let found = from_filter_map (open_source graph.nodes latest) graph.edges source some in
          let edge : Edge = found.0 in
          let parts = open_from edge source found.2 in
          (edge.source, parts.1, open_leads graph.edges node time latest are edge found.1 parts.0)

  to_open : (source : Node) → IsSource graph node time source → Contains (open_sources graph latest) source
  to_open source found-there =
      let there = found-there.1 in
      let found = leads_open graph.edges node time latest are found-there.0 found-there.2 in
      let edge : Edge = found.0 in
      let is : slice_get graph.nodes edge.source ≡ Some source =
      subst (λ (p : ℕ). slice_get graph.nodes p ≡ Some source) (sym found.2) there in
      in_all node_exact [] (filter_map (open_source graph.nodes latest) graph.edges) source
      (inr (in_filter_map (open_source graph.nodes latest) graph.edges edge source found.1 (source_of edge found.3 ∙ is)))

  pub are_sources : (nodes : List Node) → nodes ≡ open_sources graph latest → IsStrictlySortedBy node_cmp nodes → AreSources graph node time nodes
  are_sources nodes is sorted = record {
    sorted = sorted;
    each = λ source. subst (λ (l : List Node). Contains l source ↔ IsSource graph node time source) (sym is) (from_open source, to_open source);
  }
