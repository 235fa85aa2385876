use Rattle.std.proofs.Common.{◌≡◌, ◌++◌, map}
use Rattle.run_model.specs.Package.{own_table}
use Rattle.run_model.proofs.own.own_tables_of.Given as goal

abbrev pub invariant-loop-table : goal.invariant-loop-table
invariant-loop-table l = map own_table l.fn.packed ≡ l.tables ++ map own_table l.table-iterator.rest.items
