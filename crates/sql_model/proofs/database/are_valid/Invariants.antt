use Rattle.std.proofs.Common.{◌≡◌, true, take}
use Rattle.std.specs.List.{list_all}
use Rattle.sql_model.specs.Tables.{is_valid_table}
use Rattle.sql_model.proofs.database.are_valid.Given as goal

abbrev pub invariant-loop-table : goal.invariant-loop-table
invariant-loop-table l = list_all is_valid_table (take l.table-index l.table-items) ≡ true
