use Rattle.std.proofs.Common.{◌≡◌, true, take}
use Rattle.std.specs.List.{list_all}
use Rattle.world_json.specs.inner.NameSets.{is_table_known}
use Rattle.world_json.proofs.name_rules.each_table_known.Given as goal

abbrev pub invariant-loop-table : goal.invariant-loop-table
invariant-loop-table l = list_all (is_table_known l.known) (take l.table-index l.table-items) ≡ true
