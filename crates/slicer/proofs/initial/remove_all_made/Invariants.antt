use Rattle.std.proofs.Common.{◌≡◌, List, ℕ, drop}
use Rattle.std.specs.Prelude.{◌&&◌, not}
use Rattle.std.specs.List.{list_any}
use Rattle.slicer.specs.inner.Rows.{has_row, is_led}
use Rattle.slicer.proofs.initial.remove_all_made.Given as goal

abbrev pub invariant-loop-edge : goal.invariant-loop-edge
invariant-loop-edge l = (table : List ℕ) (row : ℕ) → (not (list_any (is_led l.graph.nodes table row) (drop l.edge-index l.graph.edges)) && has_row l.rows table row) ≡ (not (list_any (is_led l.graph.nodes table row) l.graph.edges) && has_row l.fn.rows table row)
