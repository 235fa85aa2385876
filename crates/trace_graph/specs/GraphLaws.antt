-- The facts about its links that a graph shows.
use Rattle.std.specs.Prelude.{◌≡◌, ℕ, List, Bool, false, ◌&&◌, ◌||◌, nat_le, IsTrue, slice_get}
use Rattle.std.specs.List.{list_any, AllByRecursion}
use Rattle.std.specs.Option.{option_map_or}
use Rattle.trace_graph.specs.Types.{Node, Edge}
use Rattle.trace_graph.specs.Links.{Link}
use Rattle.trace_graph.specs.Graph.{Parts, same_node, graph_by}

-- the node at a place passes a test
abbrev pub passes_at : (Node → Bool) → List Node → ℕ → Bool
passes_at test nodes place = option_map_or test (slice_get nodes place) false

-- a node is at an end of a link
abbrev pub touches : Node → Link → Bool
touches node l = same_node node l.source || same_node node l.target

-- a node is in the graph exactly where a link touches it
abbrev pub NodesLaw : Type 0
NodesLaw = (links : List Link) (node : Node)
    → list_any (same_node node) (graph_by links).nodes ≡ list_any (touches node) links

-- an edge goes from a node that passes a test to another node
abbrev pub leads : (Node → Bool) → Node → Parts → Bool
leads test node graph =
    list_any (λ e. passes_at test graph.nodes e.source && passes_at (same_node node) graph.nodes e.target)
    graph.edges

-- a link does
abbrev pub links_to : (Node → Bool) → Node → Link → Bool
links_to test node l = test l.source && same_node node l.target

-- an edge goes so exactly where a link does
abbrev pub EdgesLaw : Type 0
EdgesLaw = (links : List Link) (test : Node → Bool) (node : Node)
    → leads test node (graph_by links) ≡ list_any (links_to test node) links

-- an edge is between the ends of a link, and its interval has the link's time
abbrev pub covers : List Node → Link → Edge → Bool
covers nodes l e =
    (passes_at (same_node l.source) nodes e.source && passes_at (same_node l.target) nodes e.target)
    && (nat_le e.first l.time && nat_le l.time e.last)

-- of each link there is such an edge
abbrev pub IntervalsLaw : Type 0
IntervalsLaw = (links : List Link)
    → AllByRecursion (λ l. IsTrue (list_any (covers (graph_by links).nodes l) (graph_by links).edges)) links
