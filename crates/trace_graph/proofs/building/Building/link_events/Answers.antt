-- An event more is linked, and its notes are settled.
use Rattle.std.proofs.Common.{◌∙◌, ℕ, List}
use Rattle.trace_graph.specs.Types.{Event}
use Rattle.trace_graph.specs.inner.Building.{parts_of}
use Rattle.trace_graph.proofs.EventSteps.{parts_step, fits_step, held_step}
use Rattle.trace_graph.proofs.building.Building.link_events.Goals as goal

pub loop-event-preserved : goal.loop-event-preserved
loop-event-preserved c =
    let es : List Event = c.args.events.now in
    let i : ℕ = c.loop-event.event-index in
    let e : Event = c.event-item.result in
    let made : ℕ = c.loop-event.made in
    let next : ℕ = c.made_with-made.result in
    record {
      parts = parts_step (parts_of c.loop-event.self) (parts_of c.link_event.new.self) (parts_of c.settle.new.self)
          made next es i e c.loop-event-test.true c.event-item.is c.in_ok-link_event.ensures c.in_ok-settle.ensures c.made_with-made.ensures
          ∙ c.loop-event.invariant.parts;
      fits = fits_step made next es i e c.loop-event-test.true c.event-item.is c.made_with-made.ensures c.loop-event.invariant.fits;
      held = held_step c.args.texts.now.held.keys es i e c.loop-event-test.true c.event-item.is c.loop-event.invariant.held;
    }
