use Rattle.std.proofs.Common.{◌≡◌, ◌∙◌, ◌+◌, ◌∷◌, sym, ap, subst, drop, ℕ, List}
use Rattle.ldv_value.proofs.Places.{drop_item}
use Rattle.inspect.specs.Types.{Event, NamedProcess}
use Rattle.inspect.specs.inner.ChildRoom.{HaveRoom, all_births}
use Rattle.inspect.specs.ProcessNames.{named_after, named_with}
use Rattle.inspect.proofs.ChildLaws.{room_after}
use Rattle.inspect.proofs.process_names.processes_within.Goals as goal

pub loop-event-preserved : goal.loop-event-preserved
loop-event-preserved c =
    let all : List Event = c.args.events.now in
    let i : ℕ = c.loop-event.event-index in
    let e : Event = c.event-item.result in
    let ps : List NamedProcess = c.loop-event.processes in
    let rest : List Event = drop (i + 1) all in
    let split : drop i all ≡ e ∷ rest = drop_item all i e c.loop-event-test.true c.event-item.is in
    let made : c.in_ok-processes-2.processes ≡ named_after ps e = c.in_ok-processes-2.ensures in
    record {
      named = ap (λ (qs : List NamedProcess). named_with qs rest) made ∙ sym (ap (named_with ps) split) ∙ c.loop-event.invariant.named;
      room = subst (HaveRoom (all_births rest)) (sym made)
          (room_after e (all_births rest) ps (subst (λ (es : List Event). HaveRoom (all_births es) ps) split c.loop-event.invariant.room));
    }
