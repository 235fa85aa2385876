-- The marks so far, with those of the edges that are left, are those of all edges.
use Rattle.std.proofs.Common.{◌≡◌, drop, length}
use Rattle.std.specs.Prelude.{fold}
use Rattle.reach.specs.inner.Marks.{with_mark, marks_of}
use Rattle.reach.proofs.marks.open_marks.Given as goal

abbrev pub invariant-loop-edge : goal.invariant-loop-edge
invariant-loop-edge l = record {
  long : length l.marks.items ≡ l.count;
  same : fold (with_mark l.latest) l.marks.items (drop l.edge-index l.edges) ≡ marks_of l.count l.latest l.edges;
}
