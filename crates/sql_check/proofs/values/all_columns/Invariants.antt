use Rattle.std.proofs.Common.{◌≡◌, take}
use Rattle.sql_check.proofs.values.all_columns.Given as goal

abbrev pub invariant-loop-column : goal.invariant-loop-column
invariant-loop-column l = l.targets.items ≡ take l.column-index l.columns
