-- The rows of a table that pass masks, slot by slot.
use Rattle.std.specs.Prelude.{ℕ, suc, List, [], ◌∷◌, filter, Bool, false, Option}
use Rattle.std.specs.Prelude.{if◌then◌else◌, slice_index_or, unwrap_or}
use Rattle.std.specs.List.{filter_map}
use Rattle.std.specs.Option.{option_map, option_map_or}
use Rattle.lanes.specs.Sets.{member}
use Rattle.query_eval.specs.declared.source.SourceRow.{SourceRow}
use Rattle.query_eval.specs.Types.{TableRow}
use Rattle.sql_model.specs.ColumnTests.{passes_all}
use Rattle.sql_model.specs.declared.column_test.ColumnTest.{ColumnTest}
use Rattle.table_store.specs.Histories.{RowHistory, no_history, history_of_row, row_now, version_now}

-- ---- slots

-- the slot at an index; past the end there is one without a row
abbrev pub slot_at : List RowHistory → ℕ → RowHistory
slot_at slots slot = slice_index_or slots slot no_history

-- each mask passes
abbrev pub row_passes : List ColumnTest → TableRow → Bool
row_passes masks row = passes_all masks row.values

-- the row of a slot stands, and each mask passes
abbrev pub slot_passes : List ColumnTest → RowHistory → Bool
slot_passes masks slot = option_map_or (row_passes masks) (row_now slot) false

-- the slots whose numbers, from a number on, are in a set
abbrev pub rows_at_slots : List ℕ → ℕ → List RowHistory → List RowHistory
rows_at_slots words at [] = []
rows_at_slots words at (slot ∷ slots) =
    if member words at then slot ∷ rows_at_slots words (suc at) slots else rows_at_slots words (suc at) slots

-- ---- rows

-- a row of a table, at its version
abbrev pub with_version : List RowHistory → TableRow → SourceRow
with_version slots row = record {
  number = row.number;
  version = unwrap_or (version_now (history_of_row row.number slots)) 0;
  values = row.values;
}

-- the row of a slot, where it stands
abbrev pub source_row : List RowHistory → RowHistory → Option SourceRow
source_row slots slot = option_map (with_version slots) (row_now slot)

abbrev pub rows_in : List RowHistory → List RowHistory → List SourceRow
rows_in slots some = filter_map (source_row slots) some

-- the rows of a table that stand and for which each mask passes
abbrev pub left_rows : List ColumnTest → List RowHistory → List SourceRow
left_rows masks slots = rows_in slots (filter (slot_passes masks) slots)
