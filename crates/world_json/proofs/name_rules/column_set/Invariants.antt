use Rattle.std.proofs.Common.{◌≡◌, ℕ, List, take}
use Rattle.sql_model.specs.Scope.{has_column}
use Rattle.world_json.specs.inner.NameSets.{is_known}
use Rattle.world_json.proofs.name_rules.column_set.Given as goal

abbrev pub invariant-loop-column : goal.invariant-loop-column
invariant-loop-column l = (name : List ℕ) → is_known l.known name ≡ has_column (take l.column-index l.column-items) name
