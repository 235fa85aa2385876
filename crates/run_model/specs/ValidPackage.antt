-- Valid packages: a test for each rule.
--
-- The limits on the numbers of files and of tables are apart from the other rules: `are_files` and
-- `are_tables` have none, since a package joined from several may have more.
use Rattle.std.specs.Prelude.{ℕ, List, [], ◌∷◌, length, map, Bool, true, false, not, ◌&&◌, ◌==◌}
use Rattle.std.specs.Prelude.{nat_lt, nat_le}
use Rattle.std.specs.Prelude.{Option, Some, None, IsTrue, bytes_eq, find}
use Rattle.std.specs.Option.{is_some}
use Rattle.std.specs.List.{list_all}
use Rattle.ldv_value.specs.Limits.{file_limit, text_limit, max_steps, max_files, max_tables, max_params}
use Rattle.ldv_value.specs.Names.{path_test}
use Rattle.ldv_value.specs.Sorted.{is_strictly_sorted, text_precedes}
use Rattle.script_parse.specs.Script.{script_of}
use Rattle.sql_model.specs.declared.reply.Reply.TheVariants.{Rows, Changed, Refused}
use Rattle.sql_model.specs.declared.reply.SqlRefusal.{SqlRefusal}
use Rattle.sql_model.specs.declared.reply.SqlRefusal.TheVariants as refusals
use Rattle.sql_model.specs.SqlNames.{sql_name_test}
use Rattle.sql_model.specs.declared.catalog.Catalog.{Catalog}
use Rattle.sql_model.specs.ForeignKeys.{have_parents}
use Rattle.sql_model.specs.Tables.{schema_test, is_row, is_short, numbers_test, are_keys_unique}
use Rattle.run_model.specs.Types.{Reply, Event, Mode, Included, Excluded}
use Rattle.run_model.specs.Types.{Entry, Log, Package, PackedFile, PackedTable}
use Rattle.run_model.specs.ValidTrace.{trace_test, asked_count}

-- ---- orders

abbrev pub packed_file_precedes : PackedFile → PackedFile → Bool
packed_file_precedes a b = text_precedes a.path b.path

abbrev pub packed_table_precedes : PackedTable → PackedTable → Bool
packed_table_precedes a b = text_precedes a.name b.name

-- part by part
abbrev pub log_precedes : Log → Log → Bool
log_precedes a b = text_precedes a.process.parts b.process.parts

-- ---- start words: 1 to max_start_words, each of at most text_limit bytes, the first a path

abbrev pub is_short_text : List ℕ → Bool
is_short_text text = nat_le (length text) text_limit

-- of at most 255 words after the first
abbrev pub start_rule : List (List ℕ) → Bool
start_rule [] = false
start_rule (word ∷ words) =
    path_test word && nat_le (length words) 255 && list_all is_short_text (word ∷ words)

-- ---- files: each path valid, each content within its limit

abbrev pub content_rule : Option (List ℕ) → Bool
content_rule None = true
content_rule (Some bytes) = nat_le (length bytes) file_limit

abbrev pub file_rule : PackedFile → Bool
file_rule f = path_test f.path && content_rule f.content

-- strictly increasing by path, however many they are
abbrev pub are_files : List PackedFile → Bool
are_files files = list_all file_rule files && is_strictly_sorted packed_file_precedes files

-- the same, and they are few enough
abbrev pub files_rule : List PackedFile → Bool
files_rule files = nat_le (length files) max_files && are_files files

-- ---- tables

-- the rows are numbered below next and fit the columns, and no text is too long
abbrev pub rows_rule : PackedTable → Bool
rows_rule table =
    numbers_test (λ row. row.number) table.next table.rows
    && list_all (λ row. is_row table.schema.columns row.values) table.rows
    && list_all (λ row. list_all is_short row.values) table.rows

-- a table by the rules of sql_model, and no two rows have the same key
abbrev pub table_rule : PackedTable → Bool
table_rule table =
    sql_name_test table.name && schema_test table.schema && rows_rule table
    && are_keys_unique table.schema.key (map (λ row. row.values) table.rows)

-- the schemas of the tables, by their names
abbrev pub packed_catalog : List PackedTable → Catalog
packed_catalog tables =
    record { names = map (λ table. table.name) tables; schemas = map (λ table. table.schema) tables }

-- Strictly increasing by name, however many they are, and with the parents to which they refer. Their rows
-- may refer to keys that no packed row has.
abbrev pub are_tables : List PackedTable → Bool
are_tables tables =
    list_all table_rule tables && is_strictly_sorted packed_table_precedes tables
    && have_parents (packed_catalog tables)

-- the same, and they are few enough
abbrev pub tables_rule : List PackedTable → Bool
tables_rule tables = nat_le (length tables) max_tables && are_tables tables

-- ---- logs: strictly increasing by process, whose name begins with 0, none empty

abbrev pub refusal_rule : SqlRefusal → Bool
refusal_rule refusals.Syntax = true
refusal_rule refusals.NoTable = true
refusal_rule refusals.NoColumn = true
refusal_rule refusals.TypeClash = true
refusal_rule refusals.NotNull = true
refusal_rule (refusals.KeyTaken table key) = list_all is_short key
refusal_rule refusals.Full = true
refusal_rule (refusals.NoParent table key) = list_all is_short key
refusal_rule (refusals.HasChild table key) = list_all is_short key

abbrev pub reply_rule : Reply → Bool
reply_rule (Rows rows) = list_all (list_all is_short) rows
reply_rule (Changed n) = true
reply_rule (Refused refusal) = refusal_rule refusal

abbrev pub entry_rule : Entry → Bool
entry_rule e =
    is_short_text e.text && nat_le (length e.params) max_params && list_all is_short e.params
    && reply_rule e.reply

abbrev pub is_root_process : List ℕ → Bool
is_root_process [] = false
is_root_process (part ∷ parts) = part == 0

abbrev pub log_rule : Log → Bool
log_rule l = is_root_process l.process.parts && not (length l.entries == 0) && list_all entry_rule l.entries

abbrev pub logs_rule : List Log → Bool
logs_rule logs = list_all log_rule logs && is_strictly_sorted log_precedes logs

-- ---- an included package has no log, an excluded one no table

abbrev pub mode_rule : Mode → List PackedTable → List Log → Bool
mode_rule Included tables logs = length logs == 0
mode_rule Excluded tables logs = length tables == 0

-- ---- steps

abbrev pub steps_rule : ℕ → Bool
steps_rule steps = nat_le 1 steps && nat_le steps max_steps

-- ---- the first start word is a whole file that is a script

-- no file is longer than its limit
abbrev pub is_script : Option (List ℕ) → Bool
is_script None = false
is_script (Some bytes) = nat_le (length bytes) file_limit && is_some (script_of bytes)

abbrev pub is_script_file : Option PackedFile → Bool
is_script_file None = false
is_script_file (Some f) = is_script f.content

abbrev pub script_rule : List (List ℕ) → List PackedFile → Bool
script_rule [] files = false
script_rule (word ∷ words) files = is_script_file (find (λ f. bytes_eq word f.path) files)

-- ---- the trace begins with the first start word

abbrev pub trace_rule : List (List ℕ) → ℕ → List Event → Bool
trace_rule [] steps events = false
trace_rule (word ∷ words) steps events = trace_test word steps events

-- ---- the statement for which a row is needed was asked

abbrev pub reasons_rule : ℕ → List PackedTable → Bool
reasons_rule asked tables = list_all (λ table. list_all (λ row. nat_lt row.statement asked) table.rows) tables

-- ---- all of it

abbrev pub parts_rule : Package → Bool
parts_rule p = start_rule p.start && files_rule p.files && tables_rule p.tables && logs_rule p.logs

abbrev pub whole_rule : Package → Bool
whole_rule p =
    mode_rule p.mode p.tables p.logs && steps_rule p.steps && trace_rule p.start p.steps p.events
    && reasons_rule (asked_count p.events) p.tables

abbrev pub rules : Package → Bool
rules p = parts_rule p && whole_rule p && script_rule p.start p.files

abbrev pub ValidPackage : Package → Type 0
ValidPackage p = IsTrue (rules p)
