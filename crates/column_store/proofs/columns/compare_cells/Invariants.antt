use Rattle.std.proofs.Common.{◌≡◌, length, map}
use Rattle.std.specs.Cmp.Lexicographic.{slice_cmp}
use Rattle.ldv_value.specs.Cells.{value_at}
use Rattle.ldv_value.specs.Order.{order}
use Rattle.column_store.specs.Columns.{values_at}
use Rattle.column_store.proofs.columns.compare_cells.Given as goal

abbrev pub invariant-loop-left : goal.invariant-loop-left
invariant-loop-left l =
    slice_cmp order (map (value_at (values_at l.columns.items l.slot)) l.fn.places) l.fn.values
    ≡ slice_cmp order (map (value_at (values_at l.columns.items l.slot)) l.left) l.right

abbrev pub decreases-loop-left : goal.decreases-loop-left
decreases-loop-left l = length l.left
