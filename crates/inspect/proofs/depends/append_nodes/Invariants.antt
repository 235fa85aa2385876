-- The text so far, with the lines of the nodes that are left, is the whole text.
use Rattle.std.proofs.Common.{◌≡◌, ◌++◌, drop, map}
use Rattle.std.specs.List.{flat_map}
use Rattle.reach.specs.Lent.{lent_node}
use Rattle.trace_graph.specs.NodeLines.{node_line}
use Rattle.inspect.specs.ProcessNames.{name_in}
use Rattle.inspect.proofs.depends.append_nodes.Given as goal

abbrev pub invariant-loop-node : goal.invariant-loop-node
invariant-loop-node l =
    l.to ++ flat_map (node_line (name_in l.processes)) (map lent_node (drop l.node-index l.nodes))
    ≡ l.fn.to ++ flat_map (node_line (name_in l.processes)) (map lent_node l.nodes)
