use Rattle.std.proofs.Common.{◌≡◌, ◌++◌, true, map}
use Rattle.std.specs.List.{list_all}
use Rattle.world_json.specs.Faults.{is_table_within}
use Rattle.world_json.specs.Reading.{table_as}
use Rattle.world_json.proofs.world.to_tables.Given as goal

abbrev pub invariant-loop-draft : goal.invariant-loop-draft
invariant-loop-draft l = record {
  made : map table_as l.fn.drafts ≡ l.tables ++ map table_as l.draft-iterator.rest.items;
  within : list_all is_table_within l.draft-iterator.rest.items ≡ true;
}
