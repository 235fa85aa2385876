use Rattle.std.proofs.Common.{◌≡◌, ◌++◌, ◌-◌, drop, length}
use Rattle.table_store.specs.Histories.{rows_now}
use Rattle.table_store.proofs.rows.table_rows.standing_rows.Given as goal

abbrev pub invariant-slots : goal.invariant-slots
invariant-slots l = l.made ++ rows_now (drop l.at l.rows.slots) ≡ rows_now l.rows.slots

abbrev pub decreases-slots : goal.decreases-slots
decreases-slots l = length l.rows.slots - l.at
