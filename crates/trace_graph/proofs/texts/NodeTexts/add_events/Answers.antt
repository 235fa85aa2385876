use Rattle.std.proofs.Common.{◌∙◌, ◌+◌, ap, drop, ℕ, List}
use Rattle.trace_graph.specs.NodeTexts.{event_texts, with_texts}
use Rattle.trace_graph.proofs.TextLaws.{texts_step}
use Rattle.trace_graph.proofs.texts.NodeTexts.add_events.Goals as goal

pub loop-event-preserved : goal.loop-event-preserved
loop-event-preserved c =
    ap (λ (held : List (List ℕ)). with_texts held (event_texts (drop (c.loop-event.event-index + 1) c.args.events.now))) c.in_ok-add_act.ensures
    ∙ texts_step c.loop-event.self.held.keys c.args.events.now c.loop-event.event-index c.event-item.result c.loop-event-test.true c.event-item.is
    ∙ c.loop-event.invariant
