use Rattle.std.proofs.Common.{◌≡◌, ◌++◌, length, map}
use Rattle.query_eval.specs.inner.Slots.{row_at}
use Rattle.query_eval.proofs.slot_row.slots_of.Given as goal

abbrev pub invariant-rows : goal.invariant-rows
invariant-rows l = map (row_at l.rows) l.slots.items ++ l.left ≡ l.rows

abbrev pub decreases-rows : goal.decreases-rows
decreases-rows l = length l.left
