-- The live row of a table with a key.
use Rattle.std.proofs.Common.{◌≡◌, ◌∙◌, refl, ℕ, ◌<◌, true, List, map, length, Option, Some, None}
use Rattle.std.specs.Prelude.{filter}
use Rattle.std.specs.Option.{option_map, option_to_list}
use Rattle.query_eval.proofs.TableScanLaws.{slot_known}
use Rattle.query_eval.specs.inner.KeyLookup.{keyed_row, keyed_rows}
use Rattle.query_eval.specs.inner.TableScan.{with_version}
use Rattle.query_eval.specs.inner.Sources.{table_row}
use Rattle.query_eval.specs.Types.{TableRow, Value}
use Rattle.sql_model.specs.Tables.{are_keys_unique, row_values}
use Rattle.sql_model.specs.References.{has_key}
use Rattle.table_store.proofs.StandingRows.{slot-has, not-there, none-twice, only-one}
use Rattle.table_store.specs.Histories.{TableHistory, rows_now, table_now}

pub ruleset slot_rules = (slot-has, not-there)

pub ruleset keyed_known = (slot_known)

-- the rows of a table that have a key are the one that is found
pub keyed-rows : (table : TableHistory) (key : List Value) → 0 < length table.schema.key → are_keys_unique table.schema.key (row_values (table_now table)) ≡ true
    → map table_row (keyed_rows key table) ≡ filter (has_key table.schema.key key) (rows_now table.slots)
keyed-rows table key some unique =
    back (keyed_row key table)
    ∙ only-one table.schema.key key (rows_now table.slots) (none-twice table.schema.key (row_values (table_now table)) some unique)
  where
    back : (o : Option TableRow) → map table_row (option_to_list (option_map (with_version table.slots) o)) ≡ option_to_list o
    back None = refl
    back (Some row) = refl
