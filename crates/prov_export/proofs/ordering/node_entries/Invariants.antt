use Rattle.std.proofs.Common.{◌≡◌, drop}
use Rattle.serde_json.specs.Data.{no_members}
use Rattle.prov_export.specs.Document.{place_value, with_nodes}
use Rattle.prov_export.specs.inner.Texts.{members_by}
use Rattle.prov_export.proofs.ordering.node_entries.Given as goal

abbrev pub invariant-loop-node : goal.invariant-loop-node
invariant-loop-node l = record {
  members : with_nodes l.entity l.place (drop l.node-index l.nodes) (members_by place_value l.entries.entries)
      ≡ with_nodes l.entity 0 l.nodes no_members;
  place : l.place ≡ l.node-index;
}
