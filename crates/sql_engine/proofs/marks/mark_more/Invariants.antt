use Rattle.std.proofs.Common.{◌≡◌, drop}
use Rattle.sql_engine.specs.inner.Taking.{with_more}
use Rattle.sql_engine.proofs.marks.mark_more.Given as goal

abbrev pub invariant-loop-need : goal.invariant-loop-need
invariant-loop-need l = with_more l.names l.before (drop l.need-index l.reads) l.marks.items ≡ with_more l.names l.first l.reads l.fn.marks.items
