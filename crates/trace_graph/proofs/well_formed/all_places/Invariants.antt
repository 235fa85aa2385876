use Rattle.std.proofs.Common.{◌≡◌, map, take}
use Rattle.trace_graph.specs.WellFormed.{places_of}
use Rattle.trace_graph.proofs.well_formed.all_places.Given as goal

abbrev pub invariant-loop-edge : goal.invariant-loop-edge
invariant-loop-edge l = l.places.items ≡ map places_of (take l.edge-index l.edges)
