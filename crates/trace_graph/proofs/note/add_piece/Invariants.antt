-- The times of the notes that are left come to those of the edges so far.
use Rattle.std.proofs.Common.{◌≡◌, drop, map}
use Rattle.trace_graph.specs.inner.Building.{edge_at, with_notes}
use Rattle.trace_graph.proofs.note.add_piece.Given as goal

abbrev pub invariant-loop-note : goal.invariant-loop-note
invariant-loop-note l =
    with_notes (map edge_at l.spans.entries) (drop l.note-index l.notes)
    ≡ with_notes (map edge_at l.fn.spans.entries) l.notes
