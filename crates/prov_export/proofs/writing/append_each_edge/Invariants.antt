use Rattle.std.proofs.Common.{◌≡◌, ◌++◌, false, true, length}
use Rattle.serde_json.specs.Written.{members_text}
use Rattle.trace_graph.specs.Graph.{is_between}
use Rattle.prov_export.specs.Document.{edge_value}
use Rattle.prov_export.specs.inner.Texts.{members_by, all_pass}
use Rattle.prov_export.proofs.writing.append_each_edge.Given as goal

abbrev pub invariant-loop-name : goal.invariant-loop-name
invariant-loop-name l = record {
  text : l.to ++ members_text l.later (members_by (edge_value l.relation l.nodes) l.name-iterator)
      ≡ l.fn.to ++ members_text false (members_by (edge_value l.relation l.nodes) l.fn.entries.entries);
  between : all_pass (is_between (length l.nodes)) l.name-iterator ≡ true;
}
