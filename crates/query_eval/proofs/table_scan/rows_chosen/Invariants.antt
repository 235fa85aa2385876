use Rattle.std.proofs.Common.{◌≡◌, ◌++◌, ◌+◌, ◌-◌, ◌*◌, drop, length}
use Rattle.query_eval.specs.inner.TableScan.{rows_at_slots, rows_in}
use Rattle.query_eval.proofs.table_scan.rows_chosen.Given as goal

abbrev pub invariant-slots : goal.invariant-slots
invariant-slots l = l.rows ++ rows_in l.table.slots (rows_at_slots l.words l.at (drop l.at l.table.slots)) ≡ rows_in l.table.slots (rows_at_slots l.words 0 l.table.slots)

abbrev pub decreases-slots : goal.decreases-slots
decreases-slots l = 64 * length l.words - l.at
