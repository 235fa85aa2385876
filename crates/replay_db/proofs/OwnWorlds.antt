-- The own world of a valid package is valid, and so it can be run.
use Rattle.std.proofs.Common.{◌≡◌, ℕ, List, [], ◌∷◌, refl, ap, ◌∙◌, Bool, true, arith, inl, inr}
use Rattle.std.specs.Prelude.{map, length, find, ◌&&◌, nat_le, nat_lt, bytes_eq, Option, Some, None}
use Rattle.std.specs.List.{list_all, AllByRecursion}
use Rattle.std.proofs.lemmas.Bool.{cases_Bool}
use Rattle.ldv_value.proofs.Booleans.{and-parts, and-from}
use Rattle.ldv_value.proofs.Lists.{list_all-map, list_all-weaker, length-map, map-map, sorted-under}
use Rattle.ldv_value.specs.Limits.{max_files, max_tables}
use Rattle.ldv_value.specs.Names.{path_test}
use Rattle.ldv_value.specs.Sorted.{is_strictly_sorted}
use Rattle.ldv_value.specs.declared.value.Value.{Value}
use Rattle.sql_model.specs.ForeignKeys.{have_parents}
use Rattle.sql_model.specs.SqlNames.{sql_name_test}
use Rattle.sql_model.specs.Tables.{schema_test, is_row, is_short, numbers_test, are_keys_unique}
use Rattle.run_model.specs.Package.{or_empty, own_file, own_row, own_table, own_world}
use Rattle.run_model.specs.TypedPackage.{IsU32, TypedFile, TypedRow, TypedTable}
use Rattle.run_model.specs.ValidPackage.{packed_file_precedes, packed_table_precedes, content_rule, file_rule, files_rule, table_rule, packed_catalog, tables_rule, start_rule, logs_rule, is_script, is_script_file, script_rule, parts_rule, whole_rule}
use Rattle.run_model.specs.ValidWorld.{all_of_file, all_of_row, all_of_table}
use Rattle.run_model.specs.declared.package.PackedFile.{PackedFile}
use Rattle.run_model.specs.declared.package.PackedRow.{PackedRow}
use Rattle.run_model.specs.declared.package.PackedTable.{PackedTable}
use Rattle.run_model.proofs.ValidWorlds.{RuledList, ruled_list, valid_runs}
use Rattle.package_layout.specs.Whole.{has_room}
use Rattle.replay_db.specs.Runs.{OwnRunsLaw, OwnWorldLaw}

-- ---- what has all of the own world

abbrev file_again : PackedFile → PackedFile
file_again file = all_of_file (own_file file)

abbrev row_again : PackedRow → PackedRow
row_again row = all_of_row (own_row row)

abbrev table_again : PackedTable → PackedTable
table_again table = all_of_table (own_table table)

-- ---- files

content_met : (content : Option (List ℕ)) → content_rule content ≡ true → content_rule (Some (or_empty content)) ≡ true
content_met None rule = refl
content_met (Some bytes) rule = rule

file_met : (file : PackedFile) → file_rule file ≡ true → file_rule (file_again file) ≡ true
file_met file rule =
    let parts = and-parts (path_test file.path) (content_rule file.content) rule in
    and-from (path_test file.path) (content_rule (file_again file).content) parts.0 (content_met file.content parts.1)

files_met : (files : List PackedFile) → files_rule files ≡ true → files_rule (map all_of_file (map own_file files)) ≡ true
files_met files rule =
    let each : Bool = list_all file_rule files in
    let sorted : Bool = is_strictly_sorted packed_file_precedes files in
    let few = and-parts (nat_le (length files) max_files) (each && sorted) rule in
    let parts = and-parts each sorted few.1 in
    let again : map all_of_file (map own_file files) ≡ map file_again files = map-map all_of_file own_file files in
    ap files_rule again
    ∙ and-from (nat_le (length (map file_again files)) max_files) (list_all file_rule (map file_again files) && is_strictly_sorted packed_file_precedes (map file_again files))
    (ap (λ (n : ℕ). nat_le n max_files) (length-map files file_again) ∙ few.0)
    (and-from (list_all file_rule (map file_again files)) (is_strictly_sorted packed_file_precedes (map file_again files))
    (list_all-map file_rule file_again files ∙ list_all-weaker file_rule (λ f. file_rule (file_again f)) file_met files parts.0)
    (sorted-under packed_file_precedes file_again files ∙ parts.1))

-- ---- the script

script_at : (file : PackedFile) → is_script file.content ≡ true → is_script (file_again file).content ≡ true
script_at file rule = by file.content rule
  where
    by : (content : Option (List ℕ)) → is_script content ≡ true → is_script (Some (or_empty content)) ≡ true
    by None rule = absurd cc
    by (Some bytes) rule = rule

script_found : (word : List ℕ) (files : List PackedFile) → is_script_file (find (λ f. bytes_eq word f.path) files) ≡ true
    → is_script_file (find (λ f. bytes_eq word f.path) (map all_of_file (map own_file files))) ≡ true
script_found word [] rule = absurd cc
script_found word (file ∷ files) rule = elim (cases_Bool (bytes_eq word file.path)) [
  | inl hit ↦ rw hit (script_at file (rw hit at rule))
  | inr miss ↦ rw miss (script_found word files (rw miss at rule))
]

script_met : (start : List (List ℕ)) (files : List PackedFile) → script_rule start files ≡ true
    → script_rule start (map all_of_file (map own_file files)) ≡ true
script_met [] files rule = absurd cc
script_met (word ∷ words) files rule = script_found word files rule

-- ---- tables

abbrev rows_again : List PackedRow → List PackedRow
rows_again rows = map all_of_row (map own_row rows)

-- a test of each row's values, and of its number
module _ (rows : List PackedRow) where
  again : rows_again rows ≡ map row_again rows
  again = map-map all_of_row own_row rows

  values_still : (test : List Value → Bool) → list_all (λ (row : PackedRow). test row.values) (rows_again rows) ≡ list_all (λ (row : PackedRow). test row.values) rows
  values_still test = ap (list_all (λ (row : PackedRow). test row.values)) again ∙ list_all-map (λ (row : PackedRow). test row.values) row_again rows

  numbers_still : (next : ℕ) → numbers_test (λ (row : PackedRow). row.number) next (rows_again rows) ≡ numbers_test (λ (row : PackedRow). row.number) next rows
  numbers_still next =
      ap (numbers_test (λ (row : PackedRow). row.number) next) again
      ∙ (λ j. sorted-under (λ (a b : PackedRow). nat_lt a.number b.number) row_again rows j && list_all-map (λ (row : PackedRow). nat_lt row.number next) row_again rows j)

  values_are : map (λ (row : PackedRow). row.values) (rows_again rows) ≡ map (λ (row : PackedRow). row.values) rows
  values_are = ap (map (λ (row : PackedRow). row.values)) again ∙ map-map (λ (row : PackedRow). row.values) row_again rows

table_same : (t : PackedTable) → table_rule (table_again t) ≡ table_rule t
table_same t =
    λ j. sql_name_test t.name && schema_test t.schema
    && (numbers_still t.rows t.next j && values_still t.rows (is_row t.schema.columns) j && values_still t.rows (list_all is_short) j)
    && are_keys_unique t.schema.key (values_are t.rows j)

-- with the names and the schemas that they have
catalog_again : (tables : List PackedTable) → packed_catalog (map table_again tables) ≡ packed_catalog tables
catalog_again tables = λ j. record {
  names = map-map (λ (t : PackedTable). t.name) table_again tables j;
  schemas = map-map (λ (t : PackedTable). t.schema) table_again tables j;
}

tables_met : (tables : List PackedTable) → tables_rule tables ≡ true → tables_rule (map all_of_table (map own_table tables)) ≡ true
tables_met tables rule =
    let list : RuledList tables = ruled_list tables rule in
    let more : List PackedTable = map table_again tables in
    let again : map all_of_table (map own_table tables) ≡ more = map-map all_of_table own_table tables in
    let each : list_all table_rule more ≡ true =
    list_all-map table_rule table_again tables
    ∙ list_all-weaker table_rule (λ t. table_rule (table_again t)) (λ t met. table_same t ∙ met) tables list.each in
    let sorted : is_strictly_sorted packed_table_precedes more ≡ true = sorted-under packed_table_precedes table_again tables ∙ list.sorted in
    ap tables_rule again
    ∙ and-from (nat_le (length more) max_tables) (list_all table_rule more && is_strictly_sorted packed_table_precedes more && have_parents (packed_catalog more))
    (ap (λ (n : ℕ). nat_le n max_tables) (length-map tables table_again) ∙ list.few)
    (and-from (list_all table_rule more && is_strictly_sorted packed_table_precedes more) (have_parents (packed_catalog more))
    (and-from (list_all table_rule more) (is_strictly_sorted packed_table_precedes more) each sorted)
    (ap have_parents (catalog_again tables) ∙ list.parents))

-- ---- numbers and texts

files_typed : (files : List PackedFile) → AllByRecursion TypedFile files → AllByRecursion TypedFile (map all_of_file (map own_file files))
files_typed [] typed = tt
files_typed (file ∷ files) typed = (typed.0, files_typed files typed.1)

none_u32 : IsU32 0
none_u32 = omega arith

one_u32 : IsU32 1
one_u32 = omega arith

rows_typed : (rows : List PackedRow) → AllByRecursion TypedRow rows → AllByRecursion TypedRow (rows_again rows)
rows_typed [] typed = tt
rows_typed (row ∷ rows) typed = ((typed.0.0, (none_u32, typed.0.1.1)), rows_typed rows typed.1)

tables_typed : (tables : List PackedTable) → AllByRecursion TypedTable tables → AllByRecursion TypedTable (map all_of_table (map own_table tables))
tables_typed [] typed = tt
tables_typed (table ∷ tables) typed =
    ((typed.0.0, (typed.0.1.0, (typed.0.1.1.0, rows_typed table.rows typed.0.1.1.1))), tables_typed tables typed.1)

-- ---- the world

pub own_valid : OwnWorldLaw
own_valid p typed valid =
    let room = and-parts (has_room p) (parts_rule p && whole_rule p && script_rule p.start p.files) valid in
    let all = and-parts (parts_rule p && whole_rule p) (script_rule p.start p.files) room.1 in
    let parts = and-parts (parts_rule p) (whole_rule p) all.0 in
    let logs = and-parts (start_rule p.start && files_rule p.files && tables_rule p.tables) (logs_rule p.logs) parts.0 in
    let tables = and-parts (start_rule p.start && files_rule p.files) (tables_rule p.tables) logs.0 in
    let files = and-parts (start_rule p.start) (files_rule p.files) tables.0 in
    let files_again : List PackedFile = map all_of_file (map own_file p.files) in
    let tables_again : List PackedTable = map all_of_table (map own_table p.tables) in
    record {
      typed = (typed.0, (typed.1.0, (one_u32, (files_typed p.files typed.1.1.1.0, (tables_typed p.tables typed.1.1.1.1.0, (tt, tt))))));
      ruled = and-from (start_rule p.start && files_rule files_again && tables_rule tables_again) (script_rule p.start files_again)
          (and-from (start_rule p.start && files_rule files_again) (tables_rule tables_again)
          (and-from (start_rule p.start) (files_rule files_again) files.0 (files_met p.files files.1))
          (tables_met p.tables tables.1))
          (script_met p.start p.files all.1);
    }

pub own_runs : OwnRunsLaw
own_runs p typed valid = valid_runs (own_world p) (own_valid p typed valid)
