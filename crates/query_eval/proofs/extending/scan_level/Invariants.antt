use Rattle.std.proofs.Common.{◌≡◌, ◌++◌, ◌+◌, ◌*◌, length}
use Rattle.lineage.specs.Flat.{rows_in}
use Rattle.query_eval.specs.inner.Slots.{extended_by_all}
use Rattle.query_eval.proofs.extending.scan_level.Given as goal

abbrev pub invariant-rows : goal.invariant-rows
invariant-rows g l = record {
  width : l.made.width ≡ l.width + 1;
  same : l.width ≡ l.prefixes.width;
  long : length l.left ≡ l.count * l.width;
  rows : l.made.rows ++ extended_by_all (g.T.SlotTest.test l.test) (rows_in l.count l.width l.left) l.slots
      ≡ extended_by_all (g.T.SlotTest.test l.test) l.prefixes.rows l.slots;
}

abbrev pub decreases-rows : goal.decreases-rows
decreases-rows g l = l.count
