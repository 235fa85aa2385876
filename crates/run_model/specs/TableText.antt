-- The text of a table: each line ends by LF.
use Rattle.std.specs.Prelude.{ℕ, List, ◌++◌, length, codes}
use Rattle.std.specs.List.{flat_map}
use Rattle.std.specs.Fmt.{decimal}
use Rattle.sql_model.specs.declared.table.Table.{Table}
use Rattle.sql_model.specs.declared.table.TableRow.{TableRow}
use Rattle.run_model.specs.OutcomeText.{line, values_text}

-- `row NUMBER W` and W values
abbrev pub table_row_text : TableRow → List ℕ
table_row_text row =
    line (codes "row " ++ decimal row.number ++ codes " " ++ decimal (length row.values))
    ++ values_text row.values

-- `table NAME NEXT R` and R rows
abbrev pub table_text_of : Table → List ℕ
table_text_of table =
    line (codes "table " ++ table.name ++ codes " " ++ decimal table.next ++ codes " "
    ++ decimal (length table.rows))
    ++ flat_map table_row_text table.rows
