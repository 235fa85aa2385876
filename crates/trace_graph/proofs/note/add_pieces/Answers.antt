-- A piece more is added.
use Rattle.std.proofs.Common.{◌∙◌, sym, ap, ℕ, ◌+◌, List, [], map, drop}
use Rattle.ldv_value.proofs.Places.{drop_item}
use Rattle.trace_graph.specs.Types.{Edge}
use Rattle.trace_graph.specs.inner.Building.{edge_at, with_notes}
use Rattle.trace_graph.specs.inner.Pieces.{in_pieces}
use Rattle.trace_graph.specs.declared.note.Note.{Note}
use Rattle.trace_graph.proofs.NoteLaws.{notes_then}
use Rattle.trace_graph.proofs.note.add_pieces.Goals as goal

pub loop-piece-preserved : goal.loop-piece-preserved
loop-piece-preserved c =
    let edges : List Edge = map edge_at c.loop-piece.spans.entries in
    let pieces : List (List Note) = c.args.pieces.now in
    let i : ℕ = c.loop-piece.piece-index in
    let piece : List Note = c.piece-item.result in
    let rest : List Note = in_pieces (drop (i + 1) pieces) [] in
    ap (λ (es : List Edge). with_notes es rest) (c.in_ok-add_piece.ensures ∙ ap (with_notes edges) c.items.ensures)
    ∙ sym (notes_then edges piece rest)
    ∙ ap (λ (left : List (List Note)). with_notes edges (in_pieces left []))
    (sym (drop_item pieces i piece c.loop-piece-test.true c.piece-item.is))
    ∙ c.loop-piece.invariant
