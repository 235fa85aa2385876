use Rattle.std.proofs.Common.{◌≡◌, take, map}
use Rattle.sql_model.specs.Keys.{values_at}
use Rattle.sql_model.proofs.unique.keys_of.Given as goal

abbrev pub invariant-loop-row : goal.invariant-loop-row
invariant-loop-row g l = l.keys.items ≡ map (λ row. values_at l.places (g.R.HasValues.cells row)) (take l.row-index l.rows)
