use Rattle.std.proofs.Common.{◌≡◌, map, take}
use Rattle.sql_model.specs.Kinds.{kind_of_column}
use Rattle.sql_check.proofs.union.scope_kinds.Given as goal

abbrev pub invariant-loop-entry : goal.invariant-loop-entry
invariant-loop-entry l = l.kinds.items ≡ map (λ entry. kind_of_column entry.column) (take l.entry-index l.scope)
