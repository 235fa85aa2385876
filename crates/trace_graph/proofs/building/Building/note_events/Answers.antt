-- The texts of the next event are held.
use Rattle.std.proofs.Common.{subst, List, IsTrue}
use Rattle.ldv_value.proofs.Booleans.{and-first}
use Rattle.trace_graph.specs.Types.{Event}
use Rattle.trace_graph.specs.NodeTexts.{act_texts, are_held, acts_held}
use Rattle.trace_graph.proofs.building.Building.note_events.Goals as goal

pub note_event-requires-clause-held : goal.note_event-requires-clause-held
note_event-requires-clause-held c =
    let held : List (List _) = c.args.texts.now.held.keys in
    and-first (are_held held (act_texts c.in-Some.event.act)) (acts_held held c.next.new.self.rest.items)
    (subst (λ (es : List Event). IsTrue (acts_held held es)) c.in-Some.ensures.steps.0 c.loop-event.invariant.held)
