use Rattle.std.proofs.Common.{◌≡◌, ◌++◌, take}
use Rattle.std.specs.List.{flat_map, AllByRecursion}
use Rattle.package_codec.specs.Spelling.{table_spelling}
use Rattle.package_codec.specs.Typed.{TypedTable}
use Rattle.package_codec.proofs.parts.table.encode_each_table.Given as goal

abbrev pub invariant-loop-table : goal.invariant-loop-table
invariant-loop-table l = record {
  bytes : l.to ≡ l.fn.to ++ flat_map (table_spelling l.version) (take l.table-index l.tables);
  typed : AllByRecursion TypedTable (take l.table-index l.tables);
}
