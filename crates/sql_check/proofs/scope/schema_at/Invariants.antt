use Rattle.std.proofs.Common.{◌≡◌, drop}
use Rattle.std.specs.Prelude.{option_map, find, zip}
use Rattle.sql_model.specs.Scope.{schema_at, is_schema, schema_in}
use Rattle.sql_check.proofs.scope.schema_at.Given as goal

abbrev pub invariant-loop-place : goal.invariant-loop-place
invariant-loop-place l = option_map schema_in (find (is_schema l.name) (zip (drop l.place l.catalog.names) (drop l.place l.catalog.schemas))) ≡ schema_at l.name l.catalog
