-- All ways to find the latest times give the same nodes.
use Rattle.std.proofs.Common.{◌≡◌, ap, ℕ, Bool, true, List, None}
use Rattle.std.specs.Prelude.{◌&&◌, nat_le, slice_get, if◌then◌else◌}
use Rattle.std.specs.List.{filter_map}
use Rattle.trace_graph.specs.Graph.{Parts}
use Rattle.ldv_value.proofs.Booleans.{same-tests}
use Rattle.reach.specs.Types.{Node, Edge}
use Rattle.reach.specs.Found.{Times, time_at, reaches, is_open, open_source, in_order, open_sources}
use Rattle.reach.specs.inner.Search.{HasPath, AreLatest}
use Rattle.reach.proofs.TimeLaws.{reaches_some}
use Rattle.reach.proofs.PathLaws.{earlier, in_time}

module _ (edges : List Edge) (node time : ℕ) where
  reaches_path : (latest : Times) → AreLatest edges node time latest → (a place : ℕ) → reaches a (time_at latest place) ≡ true
      → HasPath edges node time place a
  reaches_path latest are a place is =
      let found = reaches_some a (time_at latest place) is in
      let path = are.known.sound place found.0 found.1 in
      (path.0, earlier edges node time path.0 place a found.0 found.2 path.1)

  module _ (latest other : Times) (are : AreLatest edges node time latest) (others : AreLatest edges node time other) where
    reach_same : (a place : ℕ) → reaches a (time_at latest place) ≡ reaches a (time_at other place)
    reach_same a place =
        same-tests (reaches a (time_at latest place)) (reaches a (time_at other place))
        (λ is. let path = reaches_path latest are a place is in in_time edges node time other others path.0 place a path.1)
        (λ is. let path = reaches_path other others a place is in in_time edges node time latest are path.0 place a path.1)

    open_same : (edge : Edge) → is_open latest edge ≡ is_open other edge
    open_same edge = ap (λ (b : Bool). nat_le edge.first edge.last && b) (reach_same edge.first edge.target)

    source_same : (nodes : List Node) (edge : Edge) → open_source nodes latest edge ≡ open_source nodes other edge
    source_same nodes edge = ap (λ (b : Bool). if b then slice_get nodes edge.source else None) (open_same edge)

pub same_sources : (graph : Parts) (node time : ℕ) (latest other : Times) → AreLatest graph.edges node time latest → AreLatest graph.edges node time other
    → open_sources graph latest ≡ open_sources graph other
same_sources graph node time latest other are others =
    λ j. in_order (filter_map (λ (e : Edge). source_same graph.edges node time latest other are others graph.nodes e j) graph.edges)
