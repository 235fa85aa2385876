use Rattle.std.proofs.Common.{◌≡◌, true, take}
use Rattle.std.specs.List.{list_all}
use Rattle.world_json.specs.Faults.{is_table_keyed}
use Rattle.world_json.proofs.keys.tables_meet_keys.Given as goal

abbrev pub invariant-loop-table : goal.invariant-loop-table
invariant-loop-table l = list_all is_table_keyed (take l.table-index l.table-items) ≡ true
