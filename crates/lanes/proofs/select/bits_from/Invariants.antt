use Rattle.std.proofs.Common.{◌≡◌, ◌≤◌, length, drop, map}
use lib.Lanes.{mask_l}
use Rattle.lanes.specs.Selection.{passes}
use Rattle.lanes.proofs.select.bits_from.Given as goal

abbrev pub invariant-places : goal.invariant-places
invariant-places l = record {
  from : l.from ≤ l.place;
  within : l.place ≤ length l.part;
  word : l.word ≡ mask_l (map (passes l.op l.constant) (drop l.place l.part));
}

abbrev pub decreases-places : goal.decreases-places
decreases-places l = l.place
