use Rattle.std.proofs.Common.{◌≡◌, map, take}
use Rattle.joined_data.proofs.parts.names_of.Given as goal

abbrev pub invariant-loop-table : goal.invariant-loop-table
invariant-loop-table l = l.names ≡ map (λ table. table.name) (take l.table-index l.table-items)
