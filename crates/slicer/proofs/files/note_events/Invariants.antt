use Rattle.std.proofs.Common.{◌≡◌, ◌||◌, List, ℕ, drop}
use Rattle.std.specs.Prelude.{◌&&◌, not}
use Rattle.run_model.specs.Slice.{names_initial, present_path, whole_path}
use Rattle.run_model.specs.Packing.{has_name}
use Rattle.slicer.proofs.files.note_events.Given as goal

abbrev pub invariant-loop-event : goal.invariant-loop-event
invariant-loop-event l = record {
  whole : (q : List ℕ) → (has_name l.paths.whole q || (not (has_name l.changed q) && names_initial whole_path q (drop l.event-index l.events)))
      ≡ (has_name l.fn.paths.whole q || (not (has_name l.fn.changed q) && names_initial whole_path q l.events));
  present : (q : List ℕ) → (has_name l.paths.present q || (not (has_name l.changed q) && names_initial present_path q (drop l.event-index l.events)))
      ≡ (has_name l.fn.paths.present q || (not (has_name l.fn.changed q) && names_initial present_path q l.events));
}
