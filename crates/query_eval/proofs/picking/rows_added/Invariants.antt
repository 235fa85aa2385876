use Rattle.std.proofs.Common.{◌≡◌, length}
use Rattle.std.specs.FinMap.{empty}
use Rattle.query_eval.specs.Picking.{rows_added}
use Rattle.query_eval.specs.inner.Slots.{rows_at}
use Rattle.query_eval.proofs.picking.rows_added.Given as goal

abbrev pub invariant-rows : goal.invariant-rows
invariant-rows l = rows_added l.lineage l.left (rows_at l.left l.right) ≡ rows_added empty l.fn.sources (rows_at l.fn.sources l.fn.slots)

abbrev pub decreases-rows : goal.decreases-rows
decreases-rows l = length l.left
