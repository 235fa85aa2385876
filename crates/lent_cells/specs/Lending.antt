-- Values that are lent.
use Rattle.lent_cells.specs.declared.cell.Cell.{Cell}
use Rattle.lent_cells.specs.declared.cell.Cell.TheVariants as cell
use Rattle.ldv_value.specs.declared.value.Value.{Value}
use Rattle.ldv_value.specs.declared.value.Value.TheVariants.{Null, Int, Text}

-- the value itself
abbrev pub cell_value : Cell → Value
cell_value cell.Null = Null
cell_value (cell.Int n) = Int n
cell_value (cell.Text t) = Text t.now
