use Rattle.std.proofs.Common.{◌≡◌, ◌++◌, take}
use Rattle.std.specs.List.{flat_map}
use Rattle.inspect.specs.RowReports.{row_line}
use Rattle.inspect.proofs.rows.append_rows.Given as goal

abbrev pub invariant-loop-row : goal.invariant-loop-row
invariant-loop-row l = l.to ≡ l.fn.to ++ flat_map (row_line l.table) (take l.row-index l.rows)
