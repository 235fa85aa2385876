-- The nodes that a node of a graph depends on by a time: those from which information could get to it by
-- then.
use Rattle.std.specs.Prelude.{◌≡◌, ◌↔◌, ℕ, ◌≤◌, List, [], ◌∷◌, Some, Contains, slice_get}
use Rattle.std.specs.List.Sorted.{IsStrictlySortedBy}
use Rattle.trace_graph.specs.Graph.{Parts}
use Rattle.reach.specs.Types.{Node, Edge}
use Rattle.reach.specs.Order.{node_cmp}

-- an edge of a path, and the time that is chosen for it
pub record Leg : Type 0 where
  pub edge : Edge
  pub time : ℕ

-- the leg is an edge from a place, and its time is in the edge's interval and not before another time
pub record Leaves (edges : List Edge) (place earliest : ℕ) (leg : Leg) : Type 0 where
  pub among : Contains edges leg.edge
  pub source : leg.edge.source ≡ place
  pub later : earliest ≤ leg.time
  pub begun : leg.edge.first ≤ leg.time
  pub ended : leg.time ≤ leg.edge.last

-- the legs are a path from a place to that of the node, each from where the one before it leads. Their times
-- never fall: none is before `earliest`, and none is after `time`
abbrev pub IsPath : List Edge → ℕ → ℕ → ℕ → ℕ → List Leg → Type 0
IsPath edges node time place earliest [] = (place ≡ node) × (earliest ≤ time)
IsPath edges node time place earliest (leg ∷ legs) =
    Leaves edges place earliest leg × IsPath edges node time leg.edge.target leg.time legs

-- a path of at least one edge leads from the place to that of the node
abbrev pub Leads : List Edge → ℕ → ℕ → ℕ → Type 0
Leads edges node time place =
    (leg : Leg) × (legs : List Leg) × IsPath edges node time place 0 (leg ∷ legs)

-- a node of the graph from which one does
abbrev pub IsSource : Parts → ℕ → ℕ → Node → Type 0
IsSource graph node time source =
    (place : ℕ) × (slice_get graph.nodes place ≡ Some source) × Leads graph.edges node time place

-- the nodes are those from which the node at the place can be reached by the time, and no other, in the order
-- of the report, each once
pub record AreSources (graph : Parts) (node time : ℕ) (sources : List Node) : Type 0 where
  pub sorted : IsStrictlySortedBy node_cmp sources
  pub each : (source : Node) → Contains sources source ↔ IsSource graph node time source
