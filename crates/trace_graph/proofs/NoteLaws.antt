-- Links that are noted.
use Rattle.std.proofs.Common.{◌≡◌, refl, sym, ap, ◌∙◌, List, [], ◌∷◌, ◌++◌, append_assoc, append-nil}
use Rattle.trace_graph.specs.Types.{Edge}
use Rattle.trace_graph.specs.inner.Building.{with_time, with_notes}
use Rattle.trace_graph.specs.inner.Pieces.{in_pieces}
use Rattle.trace_graph.specs.declared.note.Note.{Note}

-- one note more at the end
pub noted_more : (edges : List Edge) (notes : List Note) (n : Note)
    → with_notes edges (notes ++ n ∷ []) ≡ with_time n.source n.target n.time (with_notes edges notes)
noted_more edges [] n = refl
noted_more edges (m ∷ ms) n = noted_more (with_time m.source m.target m.time edges) ms n

-- some notes, and then others
pub notes_then : (edges : List Edge) (notes more : List Note)
    → with_notes edges (notes ++ more) ≡ with_notes (with_notes edges notes) more
notes_then edges [] more = refl
notes_then edges (n ∷ ns) more = notes_then (with_time n.source n.target n.time edges) ns more

-- ---- pieces

-- one note more in the latest
pub latest_more : (pieces : List (List Note)) (latest : List Note) (n : Note)
    → in_pieces pieces (latest ++ n ∷ []) ≡ in_pieces pieces latest ++ n ∷ []
latest_more [] latest n = refl
latest_more (p ∷ ps) latest n =
    ap (λ (notes : List Note). p ++ notes) (latest_more ps latest n)
    ∙ sym (append_assoc p (in_pieces ps latest) (n ∷ []))

-- the latest comes to the others
pub piece_more : (pieces : List (List Note)) (piece : List Note)
    → in_pieces (pieces ++ piece ∷ []) [] ≡ in_pieces pieces piece
piece_more [] piece = append-nil piece
piece_more (p ∷ ps) piece = ap (λ (notes : List Note). p ++ notes) (piece_more ps piece)

-- the notes of the latest come after those of the others
pub latest_then : (edges : List Edge) (pieces : List (List Note)) (latest : List Note)
    → with_notes edges (in_pieces pieces latest) ≡ with_notes (with_notes edges (in_pieces pieces [])) latest
latest_then edges [] latest = refl
latest_then edges (p ∷ ps) latest =
    notes_then edges p (in_pieces ps latest)
    ∙ latest_then (with_notes edges p) ps latest
    ∙ ap (λ (es : List Edge). with_notes es latest) (sym (notes_then edges p (in_pieces ps [])))
