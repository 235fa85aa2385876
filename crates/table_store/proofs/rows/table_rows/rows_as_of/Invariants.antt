use Rattle.std.proofs.Common.{◌≡◌, ◌++◌, drop}
use Rattle.std.specs.List.{filter_map}
use Rattle.table_store.specs.Histories.{row_as_of, rows_as_of}
use Rattle.table_store.proofs.rows.table_rows.rows_as_of.Given as goal

abbrev pub invariant-loop-slot : goal.invariant-loop-slot
invariant-loop-slot l = l.made ++ filter_map (row_as_of l.time) (drop l.slot l.rows.slots) ≡ rows_as_of l.time l.rows.slots
