use Rattle.std.proofs.Common.{◌≡◌, map, take}
use Rattle.std.specs.Prelude.{Some}
use Rattle.sql_check.proofs.answer_column.scope_columns.Given as goal

abbrev pub invariant-loop-entry : goal.invariant-loop-entry
invariant-loop-entry l = l.titles.items ≡ map (λ entry. Some entry.column.name) (take l.entry-index l.scope)
