use Rattle.std.proofs.Common.{◌≡◌, drop}
use Rattle.sql_model.specs.Refusals.{kinds_after}
use Rattle.sql_check.proofs.union.kinds_after.Given as goal

abbrev pub invariant-loop-core : goal.invariant-loop-core
invariant-loop-core l = kinds_after l.catalog l.united (drop l.core-index l.cores) ≡ kinds_after l.catalog l.fn.kinds l.cores
