use Rattle.std.proofs.Common.{◌≡◌, ◌<◌, sym, ap, subst, length, map, List, IsTrue}
use Rattle.std.specs.Prelude.{IfOk}
use Rattle.trace_graph.specs.Lent.{node_of, lent_parts}
use Rattle.trace_graph.specs.Graph.{Parts, are_between}
use Rattle.trace_graph.specs.declared.edge.Edge.{Edge}
use Rattle.trace_graph.specs.declared.key.NodeKey.{NodeKey}
use Rattle.reach.specs.Depends.{depends_of}
use Rattle.reach.specs.Lent.{lent_node}
use Rattle.reach.proofs.FoundLaws.{in_graph}
use Rattle.inspect.proofs.depends.sources_of.Goals as goal

pub depends-requires-clause-between : goal.depends-requires-clause-between
depends-requires-clause-between c =
    subst (λ (edges : List Edge). IsTrue (are_between (length c.as_slice-nodes.result.now) edges)) (sym c.as_slice-edges.ensures.value)
    (subst (λ (nodes : List NodeKey). IsTrue (are_between (length nodes) c.args.graph.now.edges.items)) (sym c.as_slice-nodes.ensures.value)
    c.requires.between)

pub depends-requires-clause-node : goal.depends-requires-clause-node
depends-requires-clause-node c =
    subst (λ (nodes : List NodeKey). c.args.place < length nodes) (sym c.as_slice-nodes.ensures.value) c.requires.place

pub returns : goal.returns
returns c =
    let is = in_graph (lent_parts c.args.graph.now) (map node_of c.as_slice-nodes.result.now) c.as_slice-edges.result.now
    (ap (map node_of) c.as_slice-nodes.ensures.value) c.as_slice-edges.ensures.value in
    subst (λ (g : Parts). IfOk c.depends.result (λ sources. map lent_node sources.items ≡ depends_of g c.args.place c.args.time)) is
    c.depends.ensures.nodes
