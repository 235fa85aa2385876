use Rattle.std.proofs.Common.{◌≡◌, ◌≤◌, ◌%◌, length, drop, map}
use lib.Lanes.{mask_l}
use Rattle.lanes.specs.Selection.{passes}
use Rattle.lanes.proofs.select.word_of.Given as goal

abbrev pub invariant-eights : goal.invariant-eights
invariant-eights l = record {
  whole : l.place % 8 ≡ 0;
  within : l.place ≤ length l.part;
  word : l.word ≡ mask_l (map (passes l.op l.constant) (drop l.place l.part));
}

abbrev pub decreases-eights : goal.decreases-eights
decreases-eights l = l.place
