use Rattle.std.proofs.Common.{◌≡◌, true, take}
use Rattle.sql_model.specs.Tables.{have_distinct_columns}
use Rattle.sql_model.proofs.database.have_distinct_columns.Given as goal

abbrev pub invariant-loop-table : goal.invariant-loop-table
invariant-loop-table l = have_distinct_columns (take l.table-index l.table-items) ≡ true
