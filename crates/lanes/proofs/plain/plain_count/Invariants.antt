use Rattle.std.proofs.Common.{◌≡◌}
use Rattle.std.specs.Prelude.{count_by}
use Rattle.std.specs.List.{range_with_len}
use Rattle.lanes.specs.Sets.{member}
use Rattle.lanes.proofs.plain.plain_count.Given as goal

abbrev pub invariant-loop-number : goal.invariant-loop-number
invariant-loop-number l = l.total ≡ count_by (member l.a) (range_with_len 0 l.number)
