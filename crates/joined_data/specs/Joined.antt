-- Two included packages, joined to one: the files and tables of both, and the needs of each run.
use Rattle.std.specs.Prelude.{ℕ, List, [], map, filter, find, Bool, ◌&&◌, not, ◌==◌, bytes_eq, if◌then◌else◌}
use Rattle.std.specs.Prelude.{Option, Some, None, option_map, Result, Ok, Err}
use Rattle.std.specs.List.{filter_map, flat_map, list_any}
use Rattle.std.specs.Option.{option_or}
use Rattle.std.specs.Ordering.{nat_cmp}
use Rattle.std.specs.Cmp.Lexicographic.{slice_cmp}
use Rattle.std.specs.declared.cmp.Ordering.{Ordering}
use Rattle.ldv_value.specs.Options.{first_some}
use Rattle.sql_model.specs.Changes.{KeyClash, key_clash}
use Rattle.sql_model.specs.Keys.{same_values}
use Rattle.sql_model.specs.Scope.{same_text}
use Rattle.run_model.specs.Package.{own_table}
use Rattle.joined_data.specs.Types.{Table, TableRow, Included, Package, PackedFile, PackedRow, PackedTable}
use Rattle.joined_data.specs.declared.joined.Joined.{Joined}
use Rattle.joined_data.specs.declared.joined.JoinedRun.{JoinedRun}
use Rattle.joined_data.specs.declared.joined.Reason.{Reason}
use Rattle.joined_data.specs.declared.joined.Clash.{Clash}
use Rattle.joined_data.specs.declared.joined.ClashKind.{ClashKind}
use Rattle.joined_data.specs.declared.joined.ClashKind.TheVariants as kinds
use Rattle.joined_data.specs.declared.joined.Which.{Which}
use Rattle.joined_data.specs.declared.joined.Which.TheVariants.{First, Second}
use Rattle.joined_data.specs.Merging.{merged, first_clash}
use Rattle.joined_data.specs.Same.{same_schema, contents_differ}

-- ---- what a run needs

abbrev pub whole_path : PackedFile → Option (List ℕ)
whole_path file = option_map (λ bytes. file.path) file.content

abbrev pub path_unless : List ℕ → Option (List ℕ) → Option (List ℕ)
path_unless path None = Some path
path_unless path (Some bytes) = None

abbrev pub present_path : PackedFile → Option (List ℕ)
present_path file = path_unless file.path file.content

abbrev pub wholes_of : List PackedFile → List (List ℕ)
wholes_of files = filter_map whole_path files

abbrev pub presents_of : List PackedFile → List (List ℕ)
presents_of files = filter_map present_path files

abbrev pub row_reason : List ℕ → PackedRow → Reason
row_reason table row = record { table = table; row = row.number; statement = row.statement; rule = row.rule }

abbrev pub table_reasons : PackedTable → List Reason
table_reasons table = map (row_reason table.name) table.rows

abbrev pub run_in : Package → JoinedRun
run_in p = record {
  start = p.start;
  seed = p.seed;
  steps = p.steps;
  wholes = wholes_of p.files;
  presents = presents_of p.files;
  tables = map (λ table. table.name) p.tables;
  reasons = flat_map table_reasons p.tables;
  events = p.events;
}

-- ---- the files and tables of both

abbrev pub file_cmp : PackedFile → PackedFile → Ordering
file_cmp a b = slice_cmp nat_cmp a.path b.path

abbrev pub table_cmp : Table → Table → Ordering
table_cmp a b = slice_cmp nat_cmp a.name b.name

abbrev pub row_cmp : TableRow → TableRow → Ordering
row_cmp a b = nat_cmp a.number b.number

-- whole where one is
abbrev pub both_files : PackedFile → PackedFile → PackedFile
both_files a b = record { path = a.path; content = option_or a.content b.content }

-- the values are those of either
abbrev pub both_rows : TableRow → TableRow → TableRow
both_rows a b = a

abbrev pub merged_rows : List TableRow → List TableRow → List TableRow
merged_rows = merged row_cmp both_rows

-- the schema and the next number are those of either
abbrev pub both_tables : Table → Table → Table
both_tables a b = record {
  name = a.name;
  schema = a.schema;
  rows = merged_rows a.rows b.rows;
  next = a.next;
}

abbrev pub merged_files : List PackedFile → List PackedFile → List PackedFile
merged_files = merged file_cmp both_files

abbrev pub merged_tables : List Table → List Table → List Table
merged_tables = merged table_cmp both_tables

abbrev pub own_tables : Package → List Table
own_tables p = map own_table p.tables

abbrev pub put_together : Package → Package → Joined
put_together a b = record {
  files = merged_files a.files b.files;
  tables = merged_tables (own_tables a) (own_tables b);
  first = run_in a;
  second = run_in b;
}

-- ---- clashes

abbrev pub clash_at : ClashKind → List ℕ → ℕ → Clash
clash_at kind name row = record { kind = kind; name = name; row = row }

abbrev pub clash_if : Bool → Clash → Option Clash
clash_if differ clash = if differ then Some clash else None

abbrev pub file_clash : PackedFile → PackedFile → Option Clash
file_clash a b = clash_if (contents_differ a.content b.content) (clash_at kinds.File a.path 0)

abbrev pub tables_differ : Table → Table → Bool
tables_differ a b = not (same_schema a.schema b.schema && a.next == b.next)

abbrev pub table_clash : Table → Table → Option Clash
table_clash a b = clash_if (tables_differ a b) (clash_at kinds.Table a.name 0)

abbrev pub row_clash : List ℕ → TableRow → TableRow → Option Clash
row_clash table a b = clash_if (not (same_values a.values b.values)) (clash_at kinds.Row table a.number)

abbrev pub rows_clash : Table → Table → Option Clash
rows_clash a b = first_clash row_cmp (row_clash a.name) a.rows b.rows

abbrev pub clash_of_keys : List ℕ → KeyClash → Clash
clash_of_keys table clash = clash_at kinds.Key table clash.later.number

abbrev pub keys_clash : Table → Option Clash
keys_clash table = option_map (clash_of_keys table.name) (key_clash table)

-- of two lists of tables, and of what they are merged to
abbrev pub clash_in : List Table → List Table → List Table → Option Clash
clash_in a b all = option_or (first_clash table_cmp table_clash a b)
    (option_or (first_clash table_cmp rows_clash a b) (first_some keys_clash all))

-- the least path, else the least table, else the least row, else the least table with a key twice
abbrev pub clash_of : Package → Package → Option Clash
clash_of a b = option_or (first_clash file_cmp file_clash a.files b.files)
    (clash_in (own_tables a) (own_tables b) (merged_tables (own_tables a) (own_tables b)))

abbrev pub unless_clash : Option Clash → Joined → Result Joined Clash
unless_clash None joined = Ok joined
unless_clash (Some clash) joined = Err clash

abbrev pub joined_of : Package → Package → Result Joined Clash
joined_of a b = unless_clash (clash_of a b) (put_together a b)

-- ---- the package of a run, picked out again

abbrev pub is_among : List ℕ → List (List ℕ) → Bool
is_among text texts = list_any (bytes_eq text) texts

abbrev pub as_present : PackedFile → PackedFile
as_present file = record { path = file.path; content = None }

abbrev pub picked_file : JoinedRun → PackedFile → Option PackedFile
picked_file run file =
    if is_among file.path run.wholes then Some file
    else if is_among file.path run.presents then Some (as_present file)
    else None

abbrev pub is_reason : List ℕ → ℕ → Reason → Bool
is_reason table row reason = same_text reason.table table && reason.row == row

abbrev pub packed_by : TableRow → Reason → PackedRow
packed_by row reason = record {
  number = row.number;
  statement = reason.statement;
  rule = reason.rule;
  values = row.values;
}

abbrev pub picked_row : JoinedRun → List ℕ → TableRow → Option PackedRow
picked_row run table row = option_map (packed_by row) (find (is_reason table row.number) run.reasons)

abbrev pub picked_table : JoinedRun → Table → PackedTable
picked_table run table = record {
  name = table.name;
  schema = table.schema;
  next = table.next;
  rows = filter_map (picked_row run table.name) table.rows;
}

abbrev pub picked_package : JoinedRun → List PackedFile → List Table → Package
picked_package run files tables = record {
  mode = Included;
  start = run.start;
  seed = run.seed;
  steps = run.steps;
  files = filter_map (picked_file run) files;
  tables = map (picked_table run) (filter (λ table. is_among table.name run.tables) tables);
  logs = [];
  events = run.events;
}

abbrev pub run_of : Which → Joined → JoinedRun
run_of First j = j.first
run_of Second j = j.second

-- the package of a run of what was joined
abbrev pub run_package : Which → Joined → Package
run_package which j = picked_package (run_of which j) j.files j.tables
