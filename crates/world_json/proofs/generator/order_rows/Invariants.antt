use Rattle.std.proofs.Common.{◌≡◌, map}
use Rattle.std.specs.List.{range_with_len}
use Rattle.world_json.specs.Generated.{order_row}
use Rattle.world_json.proofs.generator.order_rows.Given as goal

abbrev pub invariant-loop-number : goal.invariant-loop-number
invariant-loop-number l = l.rows ≡ map order_row (range_with_len 0 l.number)
