use Rattle.std.proofs.Common.{◌≡◌, ◌++◌, length}
use Rattle.query_eval.specs.inner.Slots.{values_at}
use Rattle.query_eval.proofs.picking.values_at.Given as goal

abbrev pub invariant-rows : goal.invariant-rows
invariant-rows l = l.values ++ values_at l.left l.right ≡ values_at l.fn.sources l.fn.slots

abbrev pub decreases-rows : goal.decreases-rows
decreases-rows l = length l.right
