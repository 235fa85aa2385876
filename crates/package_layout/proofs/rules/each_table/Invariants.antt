use Rattle.std.proofs.Common.{◌≡◌, true, take}
use Rattle.std.specs.List.{list_all}
use Rattle.package_layout.specs.Valid.{table_rule}
use Rattle.package_layout.proofs.rules.each_table.Given as goal

abbrev pub invariant-loop-table : goal.invariant-loop-table
invariant-loop-table l = list_all table_rule (take l.table-index l.table-items) ≡ true
