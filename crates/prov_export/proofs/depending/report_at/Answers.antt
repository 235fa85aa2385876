use Rattle.std.proofs.Common.{◌≡◌, ◌∙◌, ap, subst, map, List}
use Rattle.std.specs.List.{flat_map}
use Rattle.std.specs.Fmt.{decimal}
use Rattle.std.specs.Prelude.{IfOk}
use Rattle.ldv_value.specs.Limits.{max_steps}
use Rattle.trace_graph.specs.Lent.{node_of}
use Rattle.trace_graph.specs.Graph.{Parts}
use Rattle.trace_graph.proofs.LentLaws.{key_within, keys_between}
use Rattle.reach.specs.Depends.{depends_of}
use Rattle.reach.specs.Lent.{lent_node}
use Rattle.trace_graph.specs.NodeLines.{node_line}
use Rattle.reach.proofs.FoundLaws.{in_graph}
use Rattle.prov_export.specs.Types.{Node}
use Rattle.prov_export.proofs.depending.report_at.Goals as goal

pub depends-requires-clause-between : goal.depends-requires-clause-between
depends-requires-clause-between c =
    keys_between c.as_slice-nodes.result.now c.args.graph.now.nodes c.items-edges.result.now c.args.graph.now.edges
    (ap (map node_of) c.as_slice-nodes.ensures.value ∙ c.in_ok-keys.ensures) (c.items-edges.ensures ∙ c.edges.ensures.edges)
    c.edges.ensures.between

pub depends-requires-clause-node : goal.depends-requires-clause-node
depends-requires-clause-node c =
    key_within c.as_slice-nodes.result.now c.args.graph.now.nodes c.args.place
    (ap (map node_of) c.as_slice-nodes.ensures.value ∙ c.in_ok-keys.ensures) c.requires

pub returns : goal.returns
returns c =
    let whole = in_graph c.args.graph.now (map node_of c.as_slice-nodes.result.now) c.items-edges.result.now
    (ap (map node_of) c.as_slice-nodes.ensures.value ∙ c.in_ok-keys.ensures) (c.items-edges.ensures ∙ c.edges.ensures.edges) in
    let found : map lent_node c.as_slice-found.result.now ≡ depends_of c.args.graph.now c.args.place max_steps =
    ap (map lent_node) c.as_slice-found.ensures.value ∙ c.in_ok-sources.ensures.nodes
    ∙ ap (λ (g : Parts). depends_of g c.args.place max_steps) whole in
    subst (λ (nodes : List Node). IfOk c.lines_of.result (λ text. text ≡ flat_map (node_line decimal) nodes)) found c.lines_of.ensures
