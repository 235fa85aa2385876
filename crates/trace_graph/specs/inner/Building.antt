-- A graph grows link by link, as in the code.
use Rattle.std.specs.Prelude.{◌≡◌, ℕ, min, max, List, [], ◌∷◌, ◌++◌, map, Bool, true, ◌&&◌, ◌==◌}
use Rattle.std.specs.Prelude.{if◌then◌else◌, nat_le, Option, Some, None}
use Rattle.std.specs.List.{list_any}
use Rattle.ldv_value.specs.Limits.{max_processes}
use Rattle.run_model.specs.ValidTrace.{made_after}
use Rattle.trace_graph.specs.Types.{Event, Node, Edge}
use Rattle.trace_graph.specs.declared.span.Span.{Span}
use Rattle.trace_graph.specs.declared.note.Note.{Note}
use Rattle.trace_graph.specs.declared.building.Building.{Building}
use Rattle.trace_graph.specs.Links.{Link, event_links}
use Rattle.trace_graph.specs.Graph.{Parts, same_node, place_in}
use Rattle.trace_graph.specs.Lent.{node_of}

-- ---- what lies in memory

-- the edge of an entry: two places, and a span of time
abbrev pub edge_at : (ℕ × ℕ) × Span → Edge
edge_at entry = record {
  source = entry.0.0;
  target = entry.0.1;
  first = entry.1.first;
  last = entry.1.last;
}

-- ---- one link more

-- with a node at the end, if it isn't there yet
abbrev pub with_node : List Node → Node → List Node
with_node nodes node = if list_any (same_node node) nodes then nodes else nodes ++ node ∷ []

abbrev pub instant : ℕ → Span
instant time = record { first = time; last = time }

-- a span, if there is one, with a time more
abbrev pub span_with : Option Span → ℕ → Span
span_with None time = instant time
span_with (Some span) time = record { first = min span.first time; last = max span.last time }

abbrev pub same_pair : ℕ × ℕ → ℕ × ℕ → Bool
same_pair a b = a.0 == b.0 && a.1 == b.1

abbrev pub joins : ℕ → ℕ → Edge → Bool
joins source target edge = source == edge.source && target == edge.target

abbrev pub edge_from : ℕ → ℕ → Span → Edge
edge_from source target span = record {
  source = source;
  target = target;
  first = span.first;
  last = span.last;
}

abbrev pub edge_with_time : Edge → ℕ → Edge
edge_with_time edge time = record edge { first = min edge.first time; last = max edge.last time }

-- the edges with a time more of the one between two places, which comes last if it isn't there yet
abbrev pub with_time : ℕ → ℕ → ℕ → List Edge → List Edge
with_time source target time [] = edge_from source target (instant time) ∷ []
with_time source target time (edge ∷ edges) =
    if joins source target edge then edge_with_time edge time ∷ edges
    else edge ∷ with_time source target time edges

-- with the times of links between places
abbrev pub with_notes : List Edge → List Note → List Edge
with_notes edges [] = edges
with_notes edges (n ∷ ns) = with_notes (with_time n.source n.target n.time edges) ns

-- what was built so far: links that were noted are edges of it
abbrev pub parts_of : Building → Parts
parts_of building = record {
  nodes = map node_of building.keys.keys;
  edges = with_notes (map edge_at building.spans.entries) building.notes;
}

-- with a node at the end, if it isn't there yet, and no edge more
abbrev pub with_place : Parts → Node → Parts
with_place parts node = record parts { nodes = with_node parts.nodes node }

-- with a time more of the edge between two places
abbrev pub with_noted : Parts → ℕ → ℕ → ℕ → Parts
with_noted parts source target time = record parts { edges = with_time source target time parts.edges }

-- a node is there, at a place
abbrev pub IsAt : List Node → Node → ℕ → Type 0
IsAt nodes node place = (list_any (same_node node) nodes ≡ true) × (place ≡ place_in nodes node)

unfoldable pub with_link : Parts → Link → Parts
with_link parts l = record {
  nodes = with_node (with_node parts.nodes l.source) l.target;
  edges = with_time (place_in parts.nodes l.source) (place_in (with_node parts.nodes l.source) l.target)
      l.time parts.edges;
}

abbrev pub with_links : Parts → List Link → Parts
with_links parts [] = parts
with_links parts (l ∷ ls) = with_links (with_link parts l) ls

abbrev pub no_parts : Parts
no_parts = record { nodes = []; edges = [] }

-- ---- events

-- with the links of events before which a number of processes was made
abbrev pub with_events : Parts → ℕ → List Event → Parts
with_events parts made [] = parts
with_events parts made (e ∷ es) =
    with_events (with_links parts (event_links made e)) (made_after made e.act) es

-- the number of processes stays within its limit
abbrev pub made_fits : ℕ → List Event → Bool
made_fits made [] = true
made_fits made (e ∷ es) =
    nat_le (made_after made e.act) max_processes && made_fits (made_after made e.act) es
