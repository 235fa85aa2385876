use Rattle.std.proofs.Common.{◌≡◌, take, map}
use Rattle.sql_model.specs.Tables.{column_names}
use Rattle.sql_model.proofs.schema.names_of.Given as goal

abbrev pub invariant-loop-column : goal.invariant-loop-column
invariant-loop-column l = map (λ name. name.now) l.names.items ≡ column_names (take l.column-index l.column-items)
