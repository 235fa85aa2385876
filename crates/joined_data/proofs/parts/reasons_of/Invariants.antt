use Rattle.std.proofs.Common.{◌≡◌, take}
use Rattle.std.specs.List.{flat_map}
use Rattle.joined_data.specs.Joined.{table_reasons}
use Rattle.joined_data.proofs.parts.reasons_of.Given as goal

abbrev pub invariant-loop-table : goal.invariant-loop-table
invariant-loop-table l = l.reasons ≡ flat_map table_reasons (take l.table-index l.table-items)
