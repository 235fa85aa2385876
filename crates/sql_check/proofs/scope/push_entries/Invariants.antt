use Rattle.std.proofs.Common.{◌≡◌, ◌++◌, take}
use Rattle.sql_check.specs.inner.Sources.{entries}
use Rattle.sql_check.proofs.scope.push_entries.Given as goal

abbrev pub invariant-loop-column : goal.invariant-loop-column
invariant-loop-column l = l.scope.items ≡ l.initial.scope.items ++ entries l.source (take l.column-index l.columns)
