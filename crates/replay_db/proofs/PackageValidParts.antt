-- If files and tables meet the rules, the parts of them that events need do so too.
use Rattle.std.proofs.Common.{◌≡◌, ℕ, List, [], ◌∷◌, length, map, find, Option, Some, None, option_map, refl, sym, ap, ◌∙◌, Bool, true, false, not, ◌&&◌, if◌then◌else◌, filter_map, nat_le, nat_lt, ◌==◌, bytes_eq, inl, inr}
use Rattle.std.specs.List.{list_all, cons_option}
use Rattle.std.proofs.lemmas.Bool.{and_parts, and_from, not-true, not_from_false, cases_Bool}
use Rattle.std.proofs.lemmas.Slice.Eq.{bytes_eq-Decides}
use Rattle.ldv_value.specs.Names.{path_test}
use Rattle.replay_db.specs.Types.{File, Table, TableRow, Event, PackedFile, PackedRow, PackedTable}
use Rattle.ldv_value.specs.declared.value.Value.{Value}
use Rattle.ldv_value.proofs.Lists.{map-map}
use Rattle.sql_model.specs.SqlNames.{sql_name_test}
use Rattle.sql_model.specs.Tables.{schema_test, is_row, is_short, numbers_test, are_keys_unique}
use Rattle.run_model.specs.Slice.{FileNeed, Whole, Present, file_need, packed_as, packed_file, files_needed, Reason, first_reason, packed_because, packed_row, rows_needed, is_table_needed, packed_table, tables_needed}
use Rattle.sql_model.specs.Keys.{repeats, same_values, values_at}
use Rattle.package_layout.specs.inner.Order.{rises, is_below, file_below, table_below}
use Rattle.package_layout.specs.Valid.{content_rule, file_rule, files_rule, rows_rule, table_rule, tables_rule}
use Rattle.sql_model.specs.ForeignKeys.{have_parents}
use Rattle.run_model.specs.ValidPackage.{packed_catalog}
use Rattle.run_model.proofs.ValidWorlds.{RuledList, ruled_list}
use Rattle.replay_db.specs.Worlds.{all_of_file, all_of_row, all_of_table}
use Rattle.replay_db.proofs.PackageValidLists.{kept_if, tests_stay, within_still, rises_still, unique_still, some_kept}
use Rattle.ldv_value.proofs.Numbers.{less-trans}
use Rattle.ldv_value.proofs.TextOrders.{text_trans}

-- ---- files

file_kept : (file : File) (need : Option FileNeed) (y : PackedFile) → option_map (packed_as file) need ≡ Some y → (y.path ≡ file.path) × ((file_rule (all_of_file file) ≡ true) → file_rule y ≡ true)
file_kept file None y is = cc
file_kept file (Some Whole) y is =
    let same : all_of_file file ≡ y = cc in
    (sym (ap (λ (z : PackedFile). z.path) same), λ met. ap file_rule (sym same) ∙ met)
file_kept file (Some Present) y is =
    let same : packed_as file Present ≡ y = cc in
    let part : file_rule (all_of_file file) ≡ true → file_rule (packed_as file Present) ≡ true = λ met. let both = and_parts (path_test file.path) (content_rule (Some file.content)) met in and_from (path_test file.path) true both.0 refl in
    (sym (ap (λ (z : PackedFile). z.path) same), λ met. ap file_rule (sym same) ∙ part met)

pub files_valid : (events : List Event) (files : List File) → files_rule (map all_of_file files) ≡ true → files_rule (files_needed events files) ≡ true
files_valid events files met =
    let all : List PackedFile = map all_of_file files in
    let f : File → Option PackedFile = packed_file events in
    let kept = files_needed events files in
    let parts = and_parts (nat_le (length all) 65536) (list_all file_rule all && rises file_below all) met in
    let rest = and_parts (list_all file_rule all) (rises file_below all) parts.1 in
    let few_files : nat_le (length kept) 65536 ≡ true = within_still all_of_file f files 65536 parts.0 in
    let each : list_all file_rule kept ≡ true = tests_stay all_of_file f file_rule file_rule (λ file y is. (file_kept file (file_need file.path events) y is).1) files rest.0 in
    let rising : rises file_below kept ≡ true = rises_still all_of_file f (λ y. y.path) (λ file y is. (file_kept file (file_need file.path events) y is).0) is_below text_trans files rest.1 in
    and_from (nat_le (length kept) 65536) (list_all file_rule kept && rises file_below kept) few_files (and_from (list_all file_rule kept) (rises file_below kept) each rising)

-- a file of another path is passed over
passed_over : (word : List ℕ) (file : File) → bytes_eq word file.path ≡ false → (need : Option FileNeed) (rest : List PackedFile)
    → find (λ f. bytes_eq word f.path) (cons_option (option_map (packed_as file) need) rest) ≡ find (λ f. bytes_eq word f.path) rest
passed_over word file miss None rest = refl
passed_over word file miss (Some Whole) rest = rw miss refl
passed_over word file miss (Some Present) rest = rw miss refl

-- a file that is needed whole is found as it is
pub whole_found : (events : List Event) (word : List ℕ) → file_need word events ≡ Some Whole → (files : List File)
    → find (λ f. bytes_eq word f.path) (files_needed events files) ≡ find (λ f. bytes_eq word f.path) (map all_of_file files)
whole_found events word whole [] = refl
whole_found events word whole (file ∷ files) = elim (cases_Bool (bytes_eq word file.path)) [
  | inl hit ↦
      let here : file.path ≡ word = sym ((bytes_eq-Decides word file.path).0 hit) in
      let need : file_need file.path events ≡ Some Whole = ap (λ (path : List ℕ). file_need path events) here ∙ whole in
      rw (need, hit) refl
  | inr miss ↦ rw miss (passed_over word file miss (file_need file.path events) (files_needed events files) ∙ whole_found events word whole files)
]

-- ---- rows

-- what is kept of a row, and why
pub record KeptRow (row : TableRow) (found : Option Reason) (y : PackedRow) : Type 0 where
  pub number : y.number ≡ row.number
  pub values : y.values ≡ row.values
  pub why : found ≡ Some (record { statement = y.statement; rule = y.rule })

pub row_kept : (row : TableRow) (found : Option Reason) (y : PackedRow) → option_map (packed_because row) found ≡ Some y → KeptRow row found y
row_kept row None y is = cc
row_kept row (Some reason) y is =
    let same : packed_because row reason ≡ y = cc in
    record {
      number = sym (ap (λ (z : PackedRow). z.number) same);
      values = sym (ap (λ (z : PackedRow). z.values) same);
      why = λ j. Some (record { statement = (same j).statement; rule = (same j).rule });
    }

-- ---- tables

abbrev pub table_kept : List Event → Table → Option PackedTable
table_kept events table = if is_table_needed events table.name then Some (packed_table events table) else None

pub tables_as : (events : List Event) (tables : List Table) → tables_needed events tables ≡ filter_map (table_kept events) tables
tables_as events tables = some_kept (λ table. is_table_needed events table.name) (packed_table events) tables

pub table_is : (events : List Event) (table : Table) (y : PackedTable) → table_kept events table ≡ Some y → y ≡ packed_table events table
table_is events table y is = kept_if (is_table_needed events table.name) (packed_table events table) y is

module _ (events : List Event) (table : Table) where
  abbrev all_rows : List PackedRow
  all_rows = map all_of_row table.rows

  abbrev kept_rows : List PackedRow
  kept_rows = rows_needed events table.name table.rows

  keeps_row : (row : TableRow) (y : PackedRow) → packed_row events table.name row ≡ Some y → KeptRow row (first_reason table.name row.number events) y
  keeps_row row y is = row_kept row (first_reason table.name row.number events) y is

  values_stay : (row : TableRow) (y : PackedRow) → packed_row events table.name row ≡ Some y → y.values ≡ row.values
  values_stay row y is = (keeps_row row y is).values

  same_number : (row : TableRow) (y : PackedRow) → packed_row events table.name row ≡ Some y → y.number ≡ row.number
  same_number row y is = (keeps_row row y is).number

  -- a test of what a row has stays true
  numbers_still : (test : ℕ → Bool) → list_all (λ row. test row.number) all_rows ≡ true → list_all (λ row. test row.number) kept_rows ≡ true
  numbers_still test =
      tests_stay all_of_row (packed_row events table.name) (λ row. test row.number) (λ row. test row.number) (λ row y is met. ap test (same_number row y is) ∙ met) table.rows

  values_still : (test : List Value → Bool) → list_all (λ row. test row.values) all_rows ≡ true → list_all (λ row. test row.values) kept_rows ≡ true
  values_still test =
      tests_stay all_of_row (packed_row events table.name) (λ row. test row.values) (λ row. test row.values) (λ row y is met. ap test (values_stay row y is) ∙ met) table.rows

  abbrev sorted : List PackedRow → Bool
  sorted rows = rises (λ a b. nat_lt a.number b.number) rows

  abbrev below : List PackedRow → Bool
  below rows = list_all (λ row. nat_lt row.number table.next) rows

  abbrev numbered : List PackedRow → Bool
  numbered rows = numbers_test (λ row. row.number) table.next rows

  abbrev fit : List PackedRow → Bool
  fit rows = list_all (λ row. is_row table.schema.columns row.values) rows

  abbrev short : List PackedRow → Bool
  short rows = list_all (λ row. list_all is_short row.values) rows

  numbers_valid : numbered all_rows ≡ true → numbered kept_rows ≡ true
  numbers_valid met =
      let parts = and_parts (sorted all_rows) (below all_rows) met in
      let rising : sorted kept_rows ≡ true = rises_still all_of_row (packed_row events table.name) (λ y. y.number) same_number nat_lt less-trans table.rows parts.0 in
      and_from (sorted kept_rows) (below kept_rows) rising (numbers_still (λ n. nat_lt n table.next) parts.1)

  rows_valid : rows_rule (all_of_table table) ≡ true → rows_rule (packed_table events table) ≡ true
  rows_valid met =
      let parts = and_parts (numbered all_rows && fit all_rows) (short all_rows) met in
      let first = and_parts (numbered all_rows) (fit all_rows) parts.0 in
      and_from (numbered kept_rows && fit kept_rows) (short kept_rows)
      (and_from (numbered kept_rows) (fit kept_rows) (numbers_valid first.0) (values_still (is_row table.schema.columns) first.1)) (values_still (list_all is_short) parts.1)

  abbrev keys_of : List PackedRow → List (List Value)
  keys_of rows = map (values_at table.schema.key) (map (λ row. row.values) rows)

  keys_unique : repeats same_values (keys_of all_rows) ≡ false → repeats same_values (keys_of kept_rows) ≡ false
  keys_unique none =
      let at : (rows : List PackedRow) → keys_of rows ≡ map (λ row. values_at table.schema.key row.values) rows = λ rows. map-map (values_at table.schema.key) (λ row. row.values) rows in
      ap (repeats same_values) (at kept_rows)
      ∙ unique_still all_of_row (packed_row events table.name) (λ y. y.values) values_stay (values_at table.schema.key) same_values table.rows (sym (ap (repeats same_values) (at all_rows)) ∙ none)

  no_two : (b r s : Bool) → (r ≡ false → s ≡ false) → not (b && r) ≡ true → not (b && s) ≡ true
  no_two false r s keeps met = refl
  no_two true r s keeps met = not_from_false s (keeps (not-true r met))

  abbrev keyed : List PackedRow → Bool
  keyed rows = are_keys_unique table.schema.key (map (λ row. row.values) rows)

  table_keyed : keyed all_rows ≡ true → keyed kept_rows ≡ true
  table_keyed met = no_two (not (length table.schema.key == 0)) (repeats same_values (keys_of all_rows)) (repeats same_values (keys_of kept_rows)) keys_unique met

  pub table_valid : table_rule (all_of_table table) ≡ true → table_rule (packed_table events table) ≡ true
  table_valid met =
      let described : Bool = sql_name_test table.name && schema_test table.schema in
      let kept : Bool = rows_rule (packed_table events table) in
      let parts = and_parts (described && rows_rule (all_of_table table)) (keyed all_rows) met in
      let first = and_parts described (rows_rule (all_of_table table)) parts.0 in
      and_from (described && kept) (keyed kept_rows) (and_from described kept first.0 (rows_valid first.1)) (table_keyed parts.1)

module _ (events : List Event) where
  pub each_table : (p : PackedTable → Bool) → ((table : Table) → p (all_of_table table) ≡ true → p (packed_table events table) ≡ true) → (tables : List Table) → list_all p (map all_of_table tables) ≡ true → list_all p (tables_needed events tables) ≡ true
  each_table p keeps tables all =
      ap (list_all p) (tables_as events tables)
      ∙ tests_stay all_of_table (table_kept events) p p (λ table y is met. ap p (table_is events table y is) ∙ keeps table met) tables all

  pub tables_valid : (tables : List Table) → tables_rule (map all_of_table tables) ≡ true
      → have_parents (packed_catalog (tables_needed events tables)) ≡ true → tables_rule (tables_needed events tables) ≡ true
  tables_valid tables met parents =
      let kept : List PackedTable = tables_needed events tables in
      let list : RuledList (map all_of_table tables) = ruled_list (map all_of_table tables) met in
      let few_tables : nat_le (length kept) 256 ≡ true =
      ap (λ (ts : List PackedTable). nat_le (length ts) 256) (tables_as events tables)
      ∙ within_still all_of_table (table_kept events) tables 256 list.few in
      let each : list_all table_rule kept ≡ true = each_table table_rule (table_valid events) tables list.each in
      let rising : rises table_below kept ≡ true = ap (rises table_below) (tables_as events tables)
      ∙ rises_still all_of_table (table_kept events) (λ y. y.name) (λ table y is. ap (λ (t : PackedTable). t.name) (table_is events table y is)) is_below text_trans tables list.sorted in
      and_from (nat_le (length kept) 256) (list_all table_rule kept && rises table_below kept && have_parents (packed_catalog kept)) few_tables
      (and_from (list_all table_rule kept && rises table_below kept) (have_parents (packed_catalog kept))
      (and_from (list_all table_rule kept) (rises table_below kept) each rising) parents)
