-- The nodes that a node of a graph depends on, as a function: passes over the edges find the latest times.
use Rattle.std.specs.Prelude.{ℕ, zero, suc, ◌+◌, ◌==◌, List, map, fold, Option, None, Some, slice_set}
use Rattle.std.specs.Prelude.{if◌then◌else◌}
use Rattle.trace_graph.specs.Graph.{Parts}
use Rattle.reach.specs.Types.{Node, Edge}
use Rattle.reach.specs.Found.{Times, time_at, open_sources, times_with_source, room_of}

-- with what an edge brings to its source
abbrev pub brought_by : Option ℕ → Times → Edge → Times
brought_by None latest edge = latest
brought_by (Some time) latest edge = times_with_source latest edge time

abbrev pub times_after_edge : Times → Edge → Times
times_after_edge latest edge = brought_by (time_at latest edge.target) latest edge

-- one pass over all edges
abbrev pub times_after_pass : Times → List Edge → Times
times_after_pass latest edges = fold times_after_edge latest edges

-- by how much all times may still rise
abbrev pub room : ℕ → Times → ℕ
room limit latest = fold (λ total time. total + room_of limit time) 0 latest

-- passes, until one brings nothing more. There are no more of them than there is room
unfoldable pub passes : ℕ → ℕ → List Edge → Times → Times
passes limit zero edges latest = latest
passes limit (suc n) edges latest =
    if room limit (times_after_pass latest edges) == room limit latest then latest
    else passes limit n edges (times_after_pass latest edges)

-- at first only the node has a time
abbrev pub first_times : List Node → ℕ → ℕ → Times
first_times nodes node time = slice_set (map (λ other. None) nodes) node (Some time)

-- the latest times at which the nodes may be left
abbrev pub latest_of : Parts → ℕ → ℕ → Times
latest_of graph node time =
    passes time (room time (first_times graph.nodes node time)) graph.edges
    (first_times graph.nodes node time)

-- the nodes from which the node at a place can be reached by a time, in the order of the report, each once
abbrev pub depends_of : Parts → ℕ → ℕ → List Node
depends_of graph node time = open_sources graph (latest_of graph node time)
