use Rattle.std.proofs.Common.{◌≡◌, map}
use Rattle.std.specs.List.{range_with_len}
use Rattle.world_json.specs.Generated.{customer_row}
use Rattle.world_json.proofs.generator.customer_rows.Given as goal

abbrev pub invariant-loop-number : goal.invariant-loop-number
invariant-loop-number l = l.rows ≡ map customer_row (range_with_len 0 l.number)
