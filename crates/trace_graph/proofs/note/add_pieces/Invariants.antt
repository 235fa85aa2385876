-- The times of the pieces that are left come to those of the edges so far.
use Rattle.std.proofs.Common.{◌≡◌, drop, map, []}
use Rattle.trace_graph.specs.inner.Building.{edge_at, with_notes}
use Rattle.trace_graph.specs.inner.Pieces.{in_pieces}
use Rattle.trace_graph.proofs.note.add_pieces.Given as goal

abbrev pub invariant-loop-piece : goal.invariant-loop-piece
invariant-loop-piece l =
    with_notes (map edge_at l.spans.entries) (in_pieces (drop l.piece-index l.pieces) [])
    ≡ with_notes (map edge_at l.fn.spans.entries) (in_pieces l.pieces [])
