-- The latest times at which nodes may be left: for each place the last time, if there is one, such that
-- information that is there by then still gets to the node in time.
use Rattle.std.specs.Prelude.{ℕ, List, [], ◌∷◌, Bool, false, ◌&&◌, nat_le, Option, None, Some, slice_get}
use Rattle.std.specs.Prelude.{if◌then◌else◌, fold, ◌+◌, ◌-◌, min, not, slice_set}
use Rattle.std.specs.Option.{unwrap_or}
use Rattle.std.specs.Ordering.{match_ordering}
use Rattle.std.specs.List.{filter_map}
use Rattle.trace_graph.specs.Graph.{Parts}
use Rattle.reach.specs.Types.{Node, Edge}
use Rattle.reach.specs.Order.{node_cmp}

abbrev pub Times : Type 0
Times = List (Option ℕ)

-- the latest time of a place
abbrev pub time_at : Times → ℕ → Option ℕ
time_at latest place = unwrap_or (slice_get latest place) None

-- by a latest time, some time is late enough
abbrev pub reaches : ℕ → Option ℕ → Bool
reaches time None = false
reaches time (Some latest) = nat_le time latest

-- what the edge brings to its target still gets to the node in time
abbrev pub is_open : Times → Edge → Bool
is_open latest edge = nat_le edge.first edge.last && reaches edge.first (time_at latest edge.target)

-- the node that an open edge comes from
abbrev pub open_source : List Node → Times → Edge → Option Node
open_source nodes latest edge = if is_open latest edge then slice_get nodes edge.source else None

-- nodes in the order of the report, with one more at its place, unless it is there
abbrev pub with_node : List Node → Node → List Node
with_node [] node = node ∷ []
with_node (first ∷ nodes) node =
    match_ordering (node_cmp node first) (node ∷ first ∷ nodes) (first ∷ nodes) (first ∷ with_node nodes node)

-- nodes in the order of the report, each once
abbrev pub in_order : List Node → List Node
in_order nodes = fold with_node [] nodes

-- nodes in that order, with one more if there is one
abbrev pub with_source : List Node → Option Node → List Node
with_source nodes None = nodes
with_source nodes (Some node) = with_node nodes node

-- the nodes that open edges come from
abbrev pub open_sources : Parts → Times → List Node
open_sources graph latest = in_order (filter_map (open_source graph.nodes latest) graph.edges)

-- the latest time at which an edge may be taken, where its target may be left up to a time
abbrev pub last_by : Edge → ℕ → ℕ
last_by edge time = min edge.last time

-- it may be taken then, which is later than the latest time that its source has so far
abbrev pub is_later : Times → Edge → ℕ → Bool
is_later latest edge time =
    nat_le edge.first (last_by edge time) && not (reaches (last_by edge time) (time_at latest edge.source))

-- with that time for its source
abbrev pub times_with_source : Times → Edge → ℕ → Times
times_with_source latest edge time =
    if is_later latest edge time then slice_set latest edge.source (Some (last_by edge time)) else latest

-- by how much a time may still rise, up to a limit
abbrev pub room_of : ℕ → Option ℕ → ℕ
room_of limit None = limit + 1
room_of limit (Some time) = limit - time
