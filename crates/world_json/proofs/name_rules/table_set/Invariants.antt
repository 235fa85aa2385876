use Rattle.std.proofs.Common.{◌≡◌, ℕ, List, take}
use Rattle.std.specs.List.{list_any}
use Rattle.sql_model.specs.Scope.{same_text}
use Rattle.world_json.specs.inner.NameSets.{is_known}
use Rattle.world_json.proofs.name_rules.table_set.Given as goal

abbrev pub invariant-loop-table : goal.invariant-loop-table
invariant-loop-table l =
    (name : List ℕ) → is_known l.known name ≡ list_any (λ table. same_text table.name name) (take l.table-index l.table-items)
