use Rattle.std.proofs.Common.{◌≡◌, ◌++◌, ◌+◌, ◌*◌, length}
use Rattle.lineage.specs.Flat.{rows_in}
use Rattle.query_eval.specs.inner.Slots.{extended_by_index}
use Rattle.query_eval.proofs.joining.found_level.Given as goal

abbrev pub invariant-rows : goal.invariant-rows
invariant-rows g l = record {
  width : l.made.width ≡ l.width + 1;
  same : l.width ≡ l.prefixes.width;
  long : length l.left ≡ l.count * l.width;
  rows : l.made.rows ++ extended_by_index (g.T.SlotTest.test l.test) l.sources l.index.map l.ties (rows_in l.count l.width l.left)
      ≡ extended_by_index (g.T.SlotTest.test l.test) l.sources l.index.map l.ties l.prefixes.rows;
}

abbrev pub decreases-rows : goal.decreases-rows
decreases-rows g l = l.count
