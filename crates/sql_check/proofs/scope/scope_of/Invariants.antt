use Rattle.std.proofs.Common.{◌≡◌, ◌++◌, drop}
use Rattle.sql_model.specs.Scope.{scope_of}
use Rattle.sql_check.proofs.scope.scope_of.Given as goal

abbrev pub invariant-loop-item : goal.invariant-loop-item
invariant-loop-item l = l.scope.items ++ scope_of (drop l.item-index l.from) l.catalog ≡ scope_of l.from l.catalog
