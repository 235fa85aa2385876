use Rattle.std.proofs.Common.{◌≡◌, map, take}
use Rattle.trace_graph.specs.Lent.{node_of}
use Rattle.trace_graph.proofs.key.keys_of.Given as goal

abbrev pub invariant-loop-node : goal.invariant-loop-node
invariant-loop-node l = map node_of l.keys.items ≡ take l.node-index l.nodes
