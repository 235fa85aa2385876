use Rattle.std.proofs.Common.{◌≡◌, drop}
use Rattle.trace_graph.specs.NodeTexts.{event_texts, with_texts}
use Rattle.trace_graph.proofs.texts.NodeTexts.add_events.Given as goal

abbrev pub invariant-loop-event : goal.invariant-loop-event
invariant-loop-event l =
    with_texts l.self.held.keys (event_texts (drop l.event-index l.events)) ≡ with_texts l.fn.self.held.keys (event_texts l.events)
