use Rattle.std.proofs.Common.{◌≡◌, ◌++◌, length}
use Rattle.std.specs.Option.{option_to_list}
use Rattle.ldv_value.specs.Cells.{value_at}
use Rattle.query_eval.specs.inner.Slots.{values_at}
use Rattle.query_eval.proofs.slot_row.value_of.Given as goal

abbrev pub invariant-rows : goal.invariant-rows
invariant-rows l = value_at (values_at l.left (l.right ++ option_to_list l.last)) l.place
    ≡ value_at (values_at l.fn.sources (l.fn.slots ++ option_to_list l.last)) l.fn.place

abbrev pub decreases-rows : goal.decreases-rows
decreases-rows l = length l.right
