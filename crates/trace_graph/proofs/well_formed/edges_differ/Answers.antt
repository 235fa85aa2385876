use Rattle.std.proofs.Common.{◌∙◌, ap, not}
use Rattle.trace_graph.proofs.Repeats.{places_repeat}
use Rattle.trace_graph.proofs.well_formed.edges_differ.Goals as goal

pub returns : goal.returns
returns c = ap not (c.in_ok-twice.ensures ∙ places_repeat c.in_ok-places.places.items c.args.edges.now c.in_ok-places.ensures)
