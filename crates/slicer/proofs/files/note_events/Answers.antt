-- The paths of the next event are added.
use Rattle.std.proofs.Common.{◌≡◌, ◌∙◌, ◌+◌, ◌∷◌, ◌||◌, sym, ap, not, drop, List, ℕ}
use Rattle.std.specs.Prelude.{◌&&◌, Option}
use Rattle.ldv_value.proofs.Places.{drop_item}
use Rattle.run_model.specs.declared.event.Event.{Event}
use Rattle.run_model.specs.Slice.{is_path, whole_path, present_path, changed_path, names_initial}
use Rattle.run_model.specs.Packing.{has_name}
use Rattle.slicer.proofs.FileLaws.{named_more}
use Rattle.slicer.proofs.files.note_events.Goals as goal

pub loop-event-preserved : goal.loop-event-preserved
loop-event-preserved c =
    let es : List Event = c.args.events.now in
    let i : ℕ = c.loop-event.event-index in
    let e : Event = c.event-item.result in
    let paths = c.loop-event.paths in
    let changed = c.loop-event.changed in
    let left : drop i es ≡ e ∷ drop (i + 1) es = drop_item es i e c.loop-event-test.true c.event-item.is in
    record {
      whole = λ q.
          named_more (has_name paths.whole q) (has_name c.note_needed.new.names q) (has_name changed q) (has_name c.note_changed.new.changed q)
          (is_path q (whole_path e.act)) (is_path q (changed_path e.act)) (names_initial whole_path q (drop (i + 1) es))
          (c.in_ok-note_needed.ensures q ∙ ap (λ (o : Option (List ℕ)). has_name paths.whole q || (not (has_name changed q) && is_path q o)) c.whole_path.ensures)
          (c.in_ok-note_changed.ensures q ∙ ap (λ (o : Option (List ℕ)). has_name changed q || is_path q o) c.changed_path.ensures)
          ∙ ap (λ (rest : List Event). has_name paths.whole q || (not (has_name changed q) && names_initial whole_path q rest)) (sym left)
          ∙ c.loop-event.invariant.whole q;
      present = λ q.
          named_more (has_name paths.present q) (has_name c.note_needed-in-loop-event.new.names q) (has_name changed q) (has_name c.note_changed.new.changed q)
          (is_path q (present_path e.act)) (is_path q (changed_path e.act)) (names_initial present_path q (drop (i + 1) es))
          (c.in_ok-note_needed-2.ensures q ∙ ap (λ (o : Option (List ℕ)). has_name paths.present q || (not (has_name changed q) && is_path q o)) c.present_path.ensures)
          (c.in_ok-note_changed.ensures q ∙ ap (λ (o : Option (List ℕ)). has_name changed q || is_path q o) c.changed_path.ensures)
          ∙ ap (λ (rest : List Event). has_name paths.present q || (not (has_name changed q) && names_initial present_path q rest)) (sym left)
          ∙ c.loop-event.invariant.present q;
    }
