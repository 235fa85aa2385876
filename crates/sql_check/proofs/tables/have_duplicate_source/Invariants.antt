use Rattle.std.proofs.Common.{◌≡◌, drop}
use Rattle.std.specs.List.{list_any}
use Rattle.sql_model.specs.Refusals.{doubles_source}
use Rattle.sql_check.proofs.tables.have_duplicate_source.Given as goal

abbrev pub invariant-loop-core : goal.invariant-loop-core
invariant-loop-core l = list_any doubles_source (drop l.core-index l.cores) ≡ list_any doubles_source l.cores
