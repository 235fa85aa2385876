-- The graph of a trace. Its nodes are the linked paths, processes, row versions, statements and replies, each
-- once, in the order in which events name them first. All links from one node to another are one edge, with
-- the interval from the first to the last of their times. Edges are in the order of their first links.
use Rattle.std.specs.Prelude.{ℕ, min, max, List, [], ◌∷◌, map, Bool, false, not, ◌&&◌, ◌==◌, nat_lt, position}
use Rattle.std.specs.Prelude.{bytes_eq, fold, Option}
use Rattle.std.specs.List.{filter, flat_map, list_all, position_or_len}
use Rattle.trace_graph.specs.Types.{Member, Event, Node, Path, Process, Row, Ask, Reply, Edge}
use Rattle.trace_graph.specs.Links.{Link, links_of}

-- nodes, and edges between their places in that list, from 0
pub record Parts : Type 0 where
  pub nodes : List Node
  pub edges : List Edge

-- ---- the same

abbrev pub same_member : Member → Member → Bool
same_member a b = bytes_eq a.table b.table && (a.row == b.row && a.version == b.version)

abbrev pub same_node : Node → Node → Bool
same_node (Path a) (Path b) = bytes_eq a b
same_node (Process a) (Process b) = a == b
same_node (Row a) (Row b) = same_member a b
same_node (Ask a) (Ask b) = a == b
same_node (Reply a) (Reply b) = a == b
same_node a b = false

-- the place of the node of a path, if there is one
abbrev pub place_of : Parts → List ℕ → Option ℕ
place_of graph path = position (same_node (Path path)) graph.nodes

-- between the same two nodes, in the same direction
abbrev pub same_ends : Link → Link → Bool
same_ends a b = same_node a.source b.source && same_node a.target b.target

-- each item once, at the place of the first that is the same
abbrev pub distinct_items : {X : Type 0} → (X → X → Bool) → List X → List X
distinct_items same [] = []
distinct_items same (x ∷ xs) = x ∷ filter (λ other. not (same x other)) (distinct_items same xs)

-- ---- nodes

abbrev pub ends : Link → List Node
ends l = l.source ∷ l.target ∷ []

-- the source of a link comes before its target
abbrev pub nodes_of : List Link → List Node
nodes_of links = distinct_items same_node (flat_map ends links)

abbrev pub place_in : List Node → Node → ℕ
place_in nodes node = position_or_len (same_node node) nodes

-- ---- edges

-- the times of all links between the ends of one, in the same direction
abbrev pub times_of : List Link → Link → List ℕ
times_of links l = map (λ other. other.time) (filter (same_ends l) links)

-- of all links between the ends of one: from the place of its source to that of its target, with the least
-- and the greatest of their times
abbrev pub edge_of : List Node → List Link → Link → Edge
edge_of nodes links l = record {
  source = place_in nodes l.source;
  target = place_in nodes l.target;
  first = fold min l.time (times_of links l);
  last = fold max l.time (times_of links l);
}

abbrev pub edges_of : List Node → List Link → List Edge
edges_of nodes links = map (edge_of nodes links) (distinct_items same_ends links)

-- ---- graphs

abbrev pub graph_by : List Link → Parts
graph_by links = record { nodes = nodes_of links; edges = edges_of (nodes_of links) links }

abbrev pub graph_of : List Event → Parts
graph_of events = graph_by (links_of events)

-- an edge is between places of a number of nodes
abbrev pub is_between : ℕ → Edge → Bool
is_between count edge = nat_lt edge.source count && nat_lt edge.target count

abbrev pub are_between : ℕ → List Edge → Bool
are_between count edges = list_all (is_between count) edges
