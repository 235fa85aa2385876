use Rattle.std.proofs.Common.{◌≡◌, ◌++◌, ◌+◌, drop, length, map}
use Rattle.query_eval.specs.inner.Slots.{extended_by}
use Rattle.query_eval.proofs.extending.extend_by.Given as goal

abbrev pub invariant-loop-slot : goal.invariant-loop-slot
invariant-loop-slot g l = record {
  width : length l.prefix + 1 ≡ l.made.width;
  same : l.made.width ≡ l.fn.made.width;
  rows : l.made.rows ++ extended_by (g.T.SlotTest.test l.test) l.prefix (map (λ s. s.now) (drop l.slot-index l.slots))
      ≡ l.fn.made.rows ++ extended_by (g.T.SlotTest.test l.test) l.prefix (map (λ s. s.now) l.slots);
}
