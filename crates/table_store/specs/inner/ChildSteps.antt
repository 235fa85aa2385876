-- A walk over the rows that may be the first to refer to a key.
use Rattle.std.specs.Prelude.{◌≡◌, ℕ, ◌+◌, ◌<◌, ◌≤◌, ◌==◌, Bool, true, List, None, if◌then◌else◌}
use Rattle.std.specs.List.{AllByRecursion}
use Rattle.table_store.specs.inner.ChildPairs.{first_number}
use Rattle.table_store.specs.Types.{TableRow}
use Rattle.table_store.specs.declared.references.child_rows.Search.{Search}
use Rattle.table_store.specs.declared.references.child_rows.Search.TheVariants.{Ends, GoesOn}

-- no row before a number passes a test
abbrev pub AreFrom : (TableRow → Bool) → List TableRow → ℕ → Type 0
AreFrom test rows from = AllByRecursion (λ row. test row ≡ true → from ≤ row.number) rows

-- the first row is known, or isn't before a higher number
abbrev pub IsStep : (TableRow → Bool) → List TableRow → ℕ → Search → Type 0
IsStep test rows from (Ends first) = first ≡ first_number test rows
IsStep test rows from (GoesOn next) = (from < next) × AreFrom test rows next

abbrev pub after : ℕ → Search
after number = if number == 4294967295 then Ends None else GoesOn (number + 1)
