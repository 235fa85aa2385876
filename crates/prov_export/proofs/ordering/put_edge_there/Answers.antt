use Rattle.std.proofs.Common.{◌∙◌, ap, List, ℕ, length}
use Rattle.std.proofs.lemmas.Result.{on_ok_weaker}
use Rattle.serde_json.specs.Data.{Data, put}
use Rattle.trace_graph.specs.Graph.{is_between}
use Rattle.prov_export.specs.Types.{Edge}
use Rattle.prov_export.specs.Document.{edge_value}
use Rattle.prov_export.specs.inner.Texts.{members_by}
use Rattle.prov_export.proofs.ordering.put_edge_there.Goals as goal

pub returns-clause-put : goal.returns-clause-put
returns-clause-put c =
    let value : Edge → Data = edge_value c.args.relation c.args.nodes.now in
    on_ok_weaker c.put_edge_named.result
    (λ is. is value
    ∙ ap (λ (name : List ℕ). put name (value c.args.edge.now) (members_by value c.args.entries.now.entries)) c.in_ok-name.ensures)
    c.put_edge_named.ensures.put

pub returns-clause-between : goal.returns-clause-between
returns-clause-between c =
    on_ok_weaker c.put_edge_named.result
    (λ is. is (is_between (length c.args.nodes.now)) c.requires)
    c.put_edge_named.ensures.all
