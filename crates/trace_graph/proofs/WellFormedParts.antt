-- The rules that well-formed graphs meet.
use Rattle.std.proofs.Common.{◌≡◌, true, not, List, length, IsTrue}
use Rattle.std.specs.Prelude.{◌&&◌}
use Rattle.std.specs.List.{list_all}
use Rattle.ldv_value.proofs.Booleans.{and-first, and-second}
use Rattle.sql_model.specs.Keys.{repeats}
use Rattle.trace_graph.specs.Types.{Node, Edge}
use Rattle.trace_graph.specs.Graph.{Parts, same_node, are_between}
use Rattle.trace_graph.specs.WellFormed.{node_rule, same_places, times_rule, IsWellFormed}

module _ (graph : Parts) (formed : IsWellFormed graph) where
  after_nodes : (list_all node_rule graph.nodes && (are_between (length graph.nodes) graph.edges && (not (repeats same_places graph.edges) && list_all times_rule graph.edges))) ≡ true
  after_nodes =
      and-second (not (repeats same_node graph.nodes))
      (list_all node_rule graph.nodes && (are_between (length graph.nodes) graph.edges && (not (repeats same_places graph.edges) && list_all times_rule graph.edges))) formed

  after_rules : (are_between (length graph.nodes) graph.edges && (not (repeats same_places graph.edges) && list_all times_rule graph.edges)) ≡ true
  after_rules =
      and-second (list_all node_rule graph.nodes)
      (are_between (length graph.nodes) graph.edges && (not (repeats same_places graph.edges) && list_all times_rule graph.edges)) after_nodes

  after_places : (not (repeats same_places graph.edges) && list_all times_rule graph.edges) ≡ true
  after_places =
      and-second (are_between (length graph.nodes) graph.edges) (not (repeats same_places graph.edges) && list_all times_rule graph.edges) after_rules

  pub nodes_differ : not (repeats same_node graph.nodes) ≡ true
  nodes_differ =
      and-first (not (repeats same_node graph.nodes))
      (list_all node_rule graph.nodes && (are_between (length graph.nodes) graph.edges && (not (repeats same_places graph.edges) && list_all times_rule graph.edges))) formed

  pub nodes_ruled : list_all node_rule graph.nodes ≡ true
  nodes_ruled =
      and-first (list_all node_rule graph.nodes)
      (are_between (length graph.nodes) graph.edges && (not (repeats same_places graph.edges) && list_all times_rule graph.edges)) after_nodes

  pub edges_between : are_between (length graph.nodes) graph.edges ≡ true
  edges_between =
      and-first (are_between (length graph.nodes) graph.edges) (not (repeats same_places graph.edges) && list_all times_rule graph.edges) after_rules

  pub edges_timed : list_all times_rule graph.edges ≡ true
  edges_timed = and-second (not (repeats same_places graph.edges)) (list_all times_rule graph.edges) after_places

pub formed_between : (nodes : List Node) (edges : List Edge) → IsWellFormed (record { nodes = nodes; edges = edges })
    → IsTrue (are_between (length nodes) edges)
formed_between nodes edges formed = edges_between (record { nodes = nodes; edges = edges }) formed
