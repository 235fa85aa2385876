use Rattle.std.proofs.Common.{◌≡◌, drop}
use Rattle.std.specs.List.{list_any}
use Rattle.sql_model.specs.Refusals.{core_lacks_column}
use Rattle.sql_check.proofs.columns.cores_lack_column.Given as goal

abbrev pub invariant-loop-core : goal.invariant-loop-core
invariant-loop-core l = list_any (core_lacks_column l.catalog) (drop l.core-index l.cores) ≡ list_any (core_lacks_column l.catalog) l.cores
