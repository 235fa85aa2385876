use Rattle.std.proofs.Common.{◌≡◌, drop, length, IsTrue, true}
use Rattle.serde_json.specs.Data.{no_members}
use Rattle.trace_graph.specs.Graph.{are_between, is_between}
use Rattle.prov_export.specs.Document.{edge_value, with_edges}
use Rattle.prov_export.specs.inner.Texts.{members_by, all_pass}
use Rattle.prov_export.proofs.ordering.edge_entries.Given as goal

abbrev pub invariant-loop-edge : goal.invariant-loop-edge
invariant-loop-edge l = record {
  members : with_edges l.relation l.nodes l.number (drop l.edge-index l.edges) (members_by (edge_value l.relation l.nodes) l.entries.entries)
      ≡ with_edges l.relation l.nodes 0 l.edges no_members;
  number : l.number ≡ l.edge-index;
  between : IsTrue (are_between (length l.nodes) (drop l.edge-index l.edges));
  pass : all_pass (is_between (length l.nodes)) l.entries.entries ≡ true;
}
