-- The live row of a table with a key.
use Rattle.std.specs.Prelude.{List, find}
use Rattle.std.specs.Option.{option_map, option_to_list}
use Rattle.query_eval.specs.inner.TableScan.{with_version}
use Rattle.query_eval.specs.Types.{TableRow, Value}
use Rattle.query_eval.specs.declared.source.SourceRow.{SourceRow}
use Rattle.table_store.specs.Histories.{TableHistory, rows_now}
use Rattle.table_store.specs.KeyIndex.{row_of_key}
use Rattle.std.specs.Prelude.{Option}

abbrev pub keyed_row : List Value → TableHistory → Option TableRow
keyed_row key table = row_of_key table.schema.key key (rows_now table.slots)

-- at its version; there is none where no row has the key
abbrev pub keyed_rows : List Value → TableHistory → List SourceRow
keyed_rows key table = option_to_list (option_map (with_version table.slots) (keyed_row key table))
