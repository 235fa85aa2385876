use Rattle.std.proofs.Common.{◌≡◌, ◌++◌, map, take}
use Rattle.joined_data.specs.Joined.{row_reason}
use Rattle.joined_data.proofs.parts.add_reasons.Given as goal

abbrev pub invariant-loop-row : goal.invariant-loop-row
invariant-loop-row l = l.reasons ≡ l.fn.reasons ++ map (row_reason l.table) (take l.row-index l.row-items)
