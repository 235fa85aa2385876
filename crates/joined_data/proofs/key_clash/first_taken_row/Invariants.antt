use Rattle.std.proofs.Common.{◌≡◌, drop}
use Rattle.std.specs.BTreeSet.{contains}
use Rattle.ldv_value.specs.Order.{values_order}
use Rattle.joined_data.specs.inner.TakenKeys.{first_taken_row, unseen}
use Rattle.joined_data.proofs.key_clash.first_taken_row.Given as goal

abbrev pub invariant-loop-row : goal.invariant-loop-row
invariant-loop-row l = first_taken_row l.places (contains values_order l.seen) (drop l.row-index l.rows) ≡ first_taken_row l.places unseen l.rows
