-- Graphs whose nodes are keys, which borrow their texts.
use Rattle.std.specs.Prelude.{ℕ, List, map, Bool}
use Rattle.trace_graph.specs.Types.{Path, Node, Process, Row, Ask, Reply}
use Rattle.trace_graph.specs.declared.key.NodeKey.{NodeKey}
use Rattle.trace_graph.specs.declared.lent.LentGraph.{LentGraph}
use Rattle.trace_graph.specs.Graph.{Parts, same_node}
use Rattle.trace_graph.specs.declared.key.NodeKey.TheVariants as keys

-- the node that a key names
abbrev pub node_of : NodeKey → Node
node_of (keys.Path path) = Path path.now
node_of (keys.Process process) = Process process
node_of (keys.Row table row version) = Row (record { table = table.now; row = row; version = version })
node_of (keys.Ask statement) = Ask statement
node_of (keys.Reply statement) = Reply statement

-- the nodes and edges of what lies in memory
abbrev pub lent_parts : LentGraph → Parts
lent_parts graph = record { nodes = map node_of graph.nodes.items; edges = graph.edges.items }

-- a key is that of a path
abbrev pub names_path : List ℕ → NodeKey → Bool
names_path path key = same_node (Path path) (node_of key)
