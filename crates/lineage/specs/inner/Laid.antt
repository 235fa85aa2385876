-- How rows of one width are kept.
use Rattle.std.specs.Prelude.{◌≡◌, ◌*◌, length}
use Rattle.lineage.specs.Flat.{SlotRows, rows_in}
use Rattle.lineage.specs.declared.flat_rows.FlatRows.TheInside.{Inside}

abbrev pub seen_rows : Inside → SlotRows
seen_rows a = record { width = a.width; rows = rows_in a.count a.width a.slots.items }

pub record AreLaid (a : Inside) : Type 0 where
  pub long : length a.slots.items ≡ a.count * a.width
