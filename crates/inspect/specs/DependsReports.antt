-- `inspect depends`: the nodes that the content of a path came from.
use Rattle.std.specs.Prelude.{ℕ, List, Option, option_map}
use Rattle.std.specs.List.{flat_map}
use Rattle.inspect.specs.Types.{Event, Node, NamedProcess}
use Rattle.trace_graph.specs.Graph.{Parts, graph_of, place_of}
use Rattle.reach.specs.Depends.{depends_of}
use Rattle.trace_graph.specs.NodeLines.{node_line}
use Rattle.inspect.specs.ProcessNames.{processes_of, name_in}

-- a line for each node, with the names of the processes of the events
abbrev pub nodes_report : List Event → List Node → List ℕ
nodes_report events nodes = flat_map (node_line (name_in (processes_of events))) nodes

-- the nodes from which a path of edges leads to a place of the graph, at times that never fall, the last at
-- most the given one
abbrev pub depends_at : List Event → ℕ → ℕ → List ℕ
depends_at events time place = nodes_report events (depends_of (graph_of events) place time)

-- of a path, for a run of this number of steps; none where the path is no node
abbrev pub depends_report : List Event → ℕ → List ℕ → Option (List ℕ)
depends_report events steps path = option_map (depends_at events steps) (place_of (graph_of events) path)

-- the same by a graph and processes, which are to be those of the events
abbrev pub report_on : Parts → List NamedProcess → ℕ → List ℕ → Option (List ℕ)
report_on graph processes steps path =
    option_map (λ place. flat_map (node_line (name_in processes)) (depends_of graph place steps))
    (place_of graph path)
