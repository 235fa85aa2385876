use Rattle.std.proofs.Common.{◌≡◌, ◌++◌, take}
use Rattle.std.specs.List.{flat_map}
use Rattle.inspect.specs.RowReports.{table_lines}
use Rattle.inspect.proofs.rows.append_tables.Given as goal

abbrev pub invariant-loop-table : goal.invariant-loop-table
invariant-loop-table l = l.to ≡ l.fn.to ++ flat_map table_lines (take l.table-index l.tables)
