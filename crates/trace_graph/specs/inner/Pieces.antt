-- A list that is kept in pieces.
use Rattle.std.specs.Prelude.{List, [], ◌∷◌, ◌++◌}

-- all items: of the pieces, and then of the latest one
abbrev pub in_pieces : {X : Type 0} → List (List X) → List X → List X
in_pieces [] latest = latest
in_pieces (piece ∷ pieces) latest = piece ++ in_pieces pieces latest
