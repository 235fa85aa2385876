-- Rows that are numbered as they are read. Another rule, tried later, limits the number of rows, so only the
-- numbers below that limit matter.
use Rattle.std.specs.Prelude.{◌≡◌, ℕ, ◌+◌, ◌≤◌, List, [], ◌∷◌}
use Rattle.ldv_value.specs.Limits.{max_rows}
use Rattle.sql_model.specs.declared.table.TableRow.{TableRow}

-- each row's number is its place in the list, from a number on
abbrev pub AreNumberedFrom : ℕ → List TableRow → Type 0
AreNumberedFrom n [] = Unit {0}
AreNumberedFrom n (row ∷ rows) = (n ≤ max_rows → row.number ≡ n) × AreNumberedFrom (n + 1) rows
