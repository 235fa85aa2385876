use Rattle.std.proofs.Common.{◌≡◌, drop, IsTrue}
use Rattle.trace_graph.specs.inner.Building.{parts_of, with_events, made_fits}
use Rattle.trace_graph.specs.NodeTexts.{acts_held}
use Rattle.trace_graph.proofs.building.Building.link_events.Given as goal

abbrev pub invariant-loop-event : goal.invariant-loop-event
invariant-loop-event l = record {
  parts : with_events (parts_of l.self) l.made (drop l.event-index l.events) ≡ with_events (parts_of l.fn.self) 1 l.events;
  fits : IsTrue (made_fits l.made (drop l.event-index l.events));
  held : IsTrue (acts_held l.texts.held.keys (drop l.event-index l.events));
}
