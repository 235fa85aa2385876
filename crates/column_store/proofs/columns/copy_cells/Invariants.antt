use Rattle.std.proofs.Common.{◌≡◌, take}
use Rattle.column_store.specs.Columns.{values_at}
use Rattle.column_store.proofs.columns.copy_cells.Given as goal

abbrev pub invariant-loop-place : goal.invariant-loop-place
invariant-loop-place l = l.values.items ≡ take l.place (values_at l.columns.items l.slot)
