-- The nodes that lent keys name.
use Rattle.std.specs.Borrow.{Bor}
use Rattle.trace_graph.specs.Lent.{node_of}
use Rattle.trace_graph.specs.declared.key.NodeKey.{NodeKey}
use Rattle.reach.specs.Types.{Node}

abbrev pub lent_node : Bor NodeKey → Node
lent_node key = node_of key.now
