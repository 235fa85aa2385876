use Rattle.std.proofs.Common.{◌≡◌, ◌++◌, map, drop}
use Rattle.trace_graph.specs.Lent.{node_of}
use Rattle.trace_graph.proofs.key.nodes_of.Given as goal

abbrev pub invariant-loop-key : goal.invariant-loop-key
invariant-loop-key l = l.nodes ++ map node_of (drop l.key-index l.keys) ≡ map node_of l.keys
