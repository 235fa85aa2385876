-- The events that are left are linked to what was built so far.
use Rattle.std.proofs.Common.{◌≡◌, IsTrue}
use Rattle.trace_graph.specs.inner.Building.{parts_of, with_events, made_fits}
use Rattle.trace_graph.specs.NodeTexts.{acts_held}
use Rattle.trace_graph.proofs.building.Building.note_events.Given as goal

abbrev pub invariant-loop-event : goal.invariant-loop-event
invariant-loop-event l = record {
  parts : with_events (parts_of l.self) l.made l.event-iterator.rest.items ≡ with_events (parts_of l.fn.self) 1 l.fn.events;
  fits : IsTrue (made_fits l.made l.event-iterator.rest.items);
  held : IsTrue (acts_held l.texts.held.keys l.event-iterator.rest.items);
}
