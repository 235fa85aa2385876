-- Rows that are stored as a list or as a set.
use Rattle.std.specs.FinMap.{from_entries}
use Rattle.lineage.specs.Lineage.{Lineage}
use Rattle.lineage.specs.declared.held.Held.{Held}
use Rattle.lineage.specs.declared.held.Held.TheVariants.{Few, Many}

-- the rows that are meant
abbrev pub rows_held : Held → Lineage
rows_held (Few rows) = from_entries rows.items
rows_held (Many set) = set

abbrev pub IsMany : Held → Type 0
IsMany (Few rows) = ⊥
IsMany (Many set) = Unit {0}
