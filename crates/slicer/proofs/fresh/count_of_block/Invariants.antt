use Rattle.std.proofs.Common.{◌≡◌, true, take}
use Rattle.std.specs.List.{list_all}
use Rattle.slicer.specs.inner.Rows.{is_of_block}
use Rattle.slicer.proofs.fresh.count_of_block.Given as goal

abbrev pub invariant-loop-place : goal.invariant-loop-place
invariant-loop-place l = list_all (is_of_block l.head) (take l.place l.needs) ≡ true
