use Rattle.std.proofs.Common.{◌≡◌, map, take}
use Rattle.sql_model.proofs.catalog.schemas_of.Given as goal

abbrev pub invariant-loop-table : goal.invariant-loop-table
invariant-loop-table l = l.schemas.items ≡ map (λ table. table.schema) (take l.table-index l.tables)
