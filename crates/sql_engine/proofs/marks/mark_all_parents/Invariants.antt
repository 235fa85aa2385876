use Rattle.std.proofs.Common.{List, ℕ, length, map}
use Rattle.std.specs.Prelude.{filter, not}
use Rattle.sql_engine.specs.inner.Taking.{is_done, AreMarks}
use Rattle.sql_engine.proofs.marks.mark_all_parents.Given as goal

abbrev pub invariant-tables : goal.invariant-tables
invariant-tables l = (first : List (List ℕ)) → AreMarks first l.catalog l.fn.marks.items → AreMarks first l.catalog l.marks.items

abbrev pub decreases-tables : goal.decreases-tables
decreases-tables l = length (filter not (map is_done l.marks.items))
