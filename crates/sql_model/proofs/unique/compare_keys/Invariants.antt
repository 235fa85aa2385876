use Rattle.std.proofs.Common.{◌≡◌, length, map}
use Rattle.std.specs.Cmp.Lexicographic.{slice_cmp}
use Rattle.ldv_value.specs.Order.{order}
use Rattle.ldv_value.specs.Cells.{value_at}
use Rattle.sql_model.proofs.unique.compare_keys.Given as goal

abbrev pub invariant-loop-left : goal.invariant-loop-left
invariant-loop-left l =
    slice_cmp order (map (value_at l.fn.row) l.fn.places) (map (value_at l.fn.other) l.fn.others)
    ≡ slice_cmp order (map (value_at l.fn.row) l.left) (map (value_at l.fn.other) l.right)

abbrev pub decreases-loop-left : goal.decreases-loop-left
decreases-loop-left l = length l.left
