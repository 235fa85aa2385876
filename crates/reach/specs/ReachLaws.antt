-- The intervals of a graph keep all paths of its links, and paths give the same nodes as passes over the
-- edges.
use Rattle.std.specs.Prelude.{◌≡◌, ℕ, ◌<◌, ◌≤◌, List, [], ◌∷◌, length, Contains, IsTrue}
use Rattle.trace_graph.specs.Links.{Link}
use Rattle.trace_graph.specs.Graph.{Parts, place_in, graph_by, are_between}
use Rattle.reach.specs.Types.{Node}
use Rattle.reach.specs.Reach.{Leads, AreSources}
use Rattle.reach.specs.Depends.{depends_of}

-- the link is one of those of a graph, comes from a node, and isn't before a time
pub record Follows (links : List Link) (node : Node) (earliest : ℕ) (l : Link) : Type 0 where
  pub among : Contains links l
  pub source : l.source ≡ node
  pub later : earliest ≤ l.time

-- links, each at its one time, that lead from one node to another. Their times never fall: none is before
-- `earliest`, and none is after `time`
abbrev pub IsTrail : List Link → Node → ℕ → Node → ℕ → List Link → Type 0
IsTrail links target time node earliest [] = (node ≡ target) × (earliest ≤ time)
IsTrail links target time node earliest (l ∷ trail) =
    Follows links node earliest l × IsTrail links target time l.target l.time trail

-- where links lead, so does a path of the graph
abbrev pub TrailsLaw : Type 0
TrailsLaw = (links : List Link) (source target : Node) (time : ℕ) (l : Link) (trail : List Link)
    → IsTrail links target time source 0 (l ∷ trail)
    → Leads (graph_by links).edges (place_in (graph_by links).nodes target) time
    (place_in (graph_by links).nodes source)

-- in every graph, the nodes that passes over the edges find are those from which a path leads to the node by
-- the time
abbrev pub DependsLaw : Type 0
DependsLaw = (graph : Parts) (node time : ℕ) → IsTrue (are_between (length graph.nodes) graph.edges)
    → node < length graph.nodes → AreSources graph node time (depends_of graph node time)
