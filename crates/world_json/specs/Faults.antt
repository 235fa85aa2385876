-- The faults of a document whose parts have their types, each a test over all of it. `Tables` of `sql_model`
-- defines valid columns, keys, values and rows.
use Rattle.std.specs.Prelude.{ℕ, List, [], ◌∷◌, length, map, Bool, false, not, ◌&&◌, nat_le}
use Rattle.std.specs.Prelude.{Option, option_and_then, slice_get}
use Rattle.std.specs.List.{list_any, list_all}
use Rattle.ldv_value.specs.FileState.{file_at}
use Rattle.ldv_value.specs.Limits.{file_limit, text_limit, max_files, max_next, max_rows}
use Rattle.ldv_value.specs.Limits.{max_start_words, max_tables}
use Rattle.ldv_value.specs.Names.{path_test}
use Rattle.ldv_value.specs.declared.file.File.{File}
use Rattle.sql_model.specs.ForeignKeys.{max_foreign}
use Rattle.sql_model.specs.Keys.{repeats}
use Rattle.sql_model.specs.Scope.{same_text, has_column}
use Rattle.sql_model.specs.SqlNames.{sql_name_test}
use Rattle.sql_model.specs.Tables.{column_names_test, column_count_test, places_named, key_not_null_test}
use Rattle.sql_model.specs.Tables.{has_kind, allows, each_value, is_short, are_keys_unique}
use Rattle.ldv_value.specs.declared.value.Value.{Value}
use Rattle.sql_model.specs.declared.table.Column.{Column}
use Rattle.sql_model.specs.declared.table.Foreign.{Foreign}
use Rattle.world_json.specs.declared.document.Document.{Document}
use Rattle.world_json.specs.declared.document.Draft.{Draft}
use Rattle.world_json.specs.declared.document.DraftForeign.{DraftForeign}

-- ---- Name: every path and every name meets its rule

-- each name of a key is a column's, and no two are the same
abbrev pub is_key_named : List Column → List (List ℕ) → Bool
is_key_named columns key = list_all (has_column columns) key && not (repeats same_text key)

-- so is each name of a foreign key, and its parent is a table
abbrev pub is_foreign_named : List (List ℕ) → List Column → DraftForeign → Bool
is_foreign_named tables columns foreign =
    is_key_named columns foreign.columns && list_any (same_text foreign.parent) tables

abbrev pub is_table_named : List (List ℕ) → Draft → Bool
is_table_named tables table =
    sql_name_test table.name && column_names_test table.columns && is_key_named table.columns table.key
    && list_all (is_foreign_named tables table.columns) table.foreign

abbrev pub table_names : Document → List (List ℕ)
table_names doc = map (λ table. table.name) doc.tables

-- there is a first word, and it is a path
abbrev pub is_start_named : List (List ℕ) → Bool
is_start_named [] = false
is_start_named (word ∷ words) = path_test word

abbrev pub is_named : Document → Bool
is_named doc =
    list_all (λ file. path_test file.path) doc.files && list_all (is_table_named (table_names doc)) doc.tables
    && is_start_named doc.start

-- ---- Limit

abbrev pub is_next_right : Draft → Bool
is_next_right table = nat_le (length table.rows) table.next && nat_le table.next max_next

abbrev pub is_table_within : Draft → Bool
is_table_within table =
    column_count_test table.columns && nat_le (length table.foreign) max_foreign
    && nat_le (length table.rows) max_rows && list_all (list_all is_short) table.rows && is_next_right table

abbrev pub are_words_within : List (List ℕ) → Bool
are_words_within words =
    nat_le (length words) max_start_words && list_all (λ word. nat_le (length word) text_limit) words

abbrev pub are_files_within : List File → Bool
are_files_within files =
    nat_le (length files) max_files && list_all (λ file. nat_le (length file.content) file_limit) files

abbrev pub is_within : Document → Bool
is_within doc =
    are_files_within doc.files && are_words_within doc.start && nat_le (length doc.tables) max_tables
    && list_all is_table_within doc.tables

-- ---- RowType and NotNull: a test of each column and the value in it, in each row

abbrev pub each_row_value : (Column → Value → Bool) → Draft → Bool
each_row_value test table = list_all (each_value test table.columns) table.rows

abbrev pub is_typed : Document → Bool
is_typed doc = list_all (each_row_value has_kind) doc.tables

abbrev pub is_filled : Document → Bool
is_filled doc = list_all (each_row_value allows) doc.tables

-- ---- Key: every key column is NOT NULL, and no two rows have the same key

-- the places of a key's columns, from 0
abbrev pub key_places : Draft → List ℕ
key_places table = places_named table.columns table.key

abbrev pub is_table_keyed : Draft → Bool
is_table_keyed table =
    key_not_null_test table.columns (key_places table) && are_keys_unique (key_places table) table.rows

abbrev pub is_keyed : Document → Bool
is_keyed doc = list_all is_table_keyed doc.tables

-- the places of the columns of a foreign key
abbrev pub foreign_key : List Column → DraftForeign → Foreign
foreign_key columns foreign =
    record { columns = places_named columns foreign.columns; parent = foreign.parent }

abbrev pub foreign_keys : Draft → List Foreign
foreign_keys table = map (foreign_key table.columns) table.foreign

-- ---- NoStart

-- the file that the first start word names
abbrev pub start_of : List (List ℕ) → List File → Option File
start_of start files = option_and_then (λ word. file_at word files) (slice_get start 0)

abbrev pub start_file : Document → Option File
start_file doc = start_of doc.start doc.files
