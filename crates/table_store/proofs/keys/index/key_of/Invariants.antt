use Rattle.std.proofs.Common.{◌≡◌, take}
use Rattle.sql_model.specs.Keys.{values_at}
use Rattle.table_store.proofs.keys.index.key_of.Given as goal

abbrev pub invariant-loop-place : goal.invariant-loop-place
invariant-loop-place l = l.key.items ≡ values_at (take l.place-index l.place-items) l.values
