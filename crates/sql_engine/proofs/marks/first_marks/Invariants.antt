use Rattle.std.proofs.Common.{◌≡◌, ◌++◌, drop, map}
use Rattle.sql_engine.specs.inner.Taking.{first_mark}
use Rattle.sql_engine.proofs.marks.first_marks.Given as goal

abbrev pub invariant-loop-name : goal.invariant-loop-name
invariant-loop-name l = l.marks.items ++ map (first_mark l.statement) (drop l.name-index l.name-items) ≡ map (first_mark l.statement) l.names
