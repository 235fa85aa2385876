use Rattle.std.proofs.Common.{◌∙◌, ap, map}
use Rattle.trace_graph.specs.Lent.{node_of}
use Rattle.trace_graph.proofs.LentLaws.{key_within, keys_between}
use Rattle.run_tests.proofs.graphs.count_sources.Goals as goal

pub depends-requires-clause-between : goal.depends-requires-clause-between
depends-requires-clause-between c =
    keys_between c.as_slice-nodes.result.now c.args.graph.now.nodes c.items-edges.result.now c.args.graph.now.edges
    (ap (map node_of) c.as_slice-nodes.ensures.value ∙ c.in_ok-keys.ensures) (c.items-edges.ensures ∙ c.edges.ensures.edges)
    c.edges.ensures.between

pub depends-requires-clause-node : goal.depends-requires-clause-node
depends-requires-clause-node c =
    key_within c.as_slice-nodes.result.now c.args.graph.now.nodes c.args.place
    (ap (map node_of) c.as_slice-nodes.ensures.value ∙ c.in_ok-keys.ensures) c.requires
