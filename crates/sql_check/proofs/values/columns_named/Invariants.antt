use Rattle.std.proofs.Common.{◌≡◌, ◌++◌, drop}
use Rattle.sql_model.specs.Refusals.{columns_named}
use Rattle.sql_check.proofs.values.columns_named.Given as goal

abbrev pub invariant-loop-name : goal.invariant-loop-name
invariant-loop-name l = l.targets.items ++ columns_named l.columns (drop l.name-index l.names) ≡ columns_named l.columns l.names
