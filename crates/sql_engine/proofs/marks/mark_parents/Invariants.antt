use Rattle.std.proofs.Common.{◌≡◌, drop}
use Rattle.sql_engine.specs.inner.Taking.{with_parents_of}
use Rattle.sql_engine.proofs.marks.mark_parents.Given as goal

abbrev pub invariant-loop-foreign : goal.invariant-loop-foreign
invariant-loop-foreign l = with_parents_of l.names (drop l.foreign-index l.foreigns) l.marks.items ≡ with_parents_of l.names l.foreigns l.fn.marks.items
