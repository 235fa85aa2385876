-- The world of a document meets the rules of worlds: documents and packages cite the same tests of tables.
use Rattle.std.proofs.Common.{◌≡◌, ℕ, suc, ◌+◌, ◌≤◌, List, [], ◌∷◌, length, map, find, zip, Option, Some, None, is_some, Result, Ok, Err, IfOk, refl, sym, ap, ◌∙◌, subst, Bool, true, false, not, ◌==◌, IsTrue, nat_le, nat_lt, bytes_eq, slice_get, arith, inl, inr}
use Rattle.std.specs.List.{list_all, list_any, position_or_len, AllByRecursion}
use Rattle.std.specs.Prelude.{nat_eq}
use Rattle.std.proofs.lemmas.Bool.{cases_Bool, lt-ltb, leb-true}
use Rattle.std.proofs.lemmas.Bool.Decides.{nat_tests, Decides-eqb}
use Rattle.std.proofs.lemmas.List.Folds.{find_at}
use Rattle.std.proofs.lemmas.Option.{slice_get_within}
use Rattle.std.proofs.lemmas.Slice.Eq.{bytes_eq-Decides}
use Rattle.ldv_value.proofs.Booleans.{and-parts, and-from, and-first, or-parts, or-from, not-true, true≢false}
use Rattle.ldv_value.proofs.Lists.{list_all-map, list_all-weaker, length-map, sorted-under, list_all-both}
use Rattle.ldv_value.specs.FileState.{file_at}
use Rattle.ldv_value.specs.Limits.{file_limit, max_files, max_tables, max_start_words}
use Rattle.ldv_value.specs.Names.{path_test}
use Rattle.ldv_value.specs.declared.file.File.{File}
use Rattle.ldv_value.specs.declared.value.Value.{Value}
use Rattle.script_parse.specs.Script.{script_of}
use Rattle.script_parse.specs.declared.script.Instr.{Instr}
use Rattle.sql_model.proofs.ValidTables.{fits-from}
use Rattle.sql_model.specs.Keys.{repeats}
use Rattle.sql_model.specs.ForeignKeys.{max_foreign, have_parents}
use Rattle.sql_model.specs.References.{references_hold}
use Rattle.sql_model.specs.Scope.{same_text, is_column, has_column, catalog_of}
use Rattle.sql_model.specs.Tables.{places_named, key_places_test, foreign_key_test, foreign_count_test, foreign_test, schema_test, has_kind, allows, is_row, is_short, each_value, numbers_test, are_keys_unique, table_precedes}
use Rattle.sql_model.specs.declared.table.Column.{Column}
use Rattle.sql_model.specs.declared.table.Table.{Table}
use Rattle.run_model.specs.ValidPackage.{packed_file_precedes, packed_table_precedes, start_rule, file_rule, files_rule, rows_rule, table_rule, tables_rule, is_script_file, script_rule}
use Rattle.run_model.specs.declared.package.PackedRow.{PackedRow}
use Rattle.run_model.specs.declared.package.PackedTable.{PackedTable}
use Rattle.run_model.specs.declared.world.ParsedWorld.{ParsedWorld}
use Rattle.run_model.specs.declared.world.World.{World}
use Rattle.run_model.proofs.KeyPlaces.{find-of-list_any}
use Rattle.run_model.specs.ValidWorld.{all_of_file, all_of_row, all_of_table, TypedWorld, world_rules, ValidWorld, CanRun}
use Rattle.run_model.proofs.ValidWorlds.{all_of_catalog, valid_runs}
use Rattle.world_json.proofs.ReadDocuments.{IsWide, IsDocument, world_read}
use Rattle.world_json.proofs.Readings.{IsWorldOf}
use Rattle.world_json.specs.Faults as faults
use Rattle.world_json.specs.Faults.{each_row_value, key_places}
use Rattle.world_json.specs.declared.document.Document.{Document}
use Rattle.world_json.specs.declared.document.Draft.{Draft}
use Rattle.world_json.specs.declared.document.DraftForeign.{DraftForeign}
use Rattle.world_json.specs.declared.fault.WorldStop.{WorldStop}
use Rattle.world_json.specs.Reading.{numbered_from, table_as, world_as, script_fault, start_fault_of, world_reading}

-- ---- the places of a key's columns

module _ (columns : List Column) where
  abbrev place : List ℕ → ℕ
  place name = position_or_len (is_column name) columns

  -- the column at the place has the name
  placed : (name : List ℕ) → has_column columns name ≡ true → (c : Column) × (slice_get columns (place name) ≡ Some c) × (c.name ≡ name)
  placed name there =
      let one = find-of-list_any (is_column name) columns there in
      (one.0, sym (find_at (is_column name) columns) ∙ one.1, (bytes_eq-Decides one.0.name name).0 one.2)

  within : (name : List ℕ) → has_column columns name ≡ true → nat_lt (place name) (length columns) ≡ true
  within name there = let at = placed name there in lt-ltb (place name) (length columns) (slice_get_within columns (place name) at.0 at.1)

  apart : (a b : List ℕ) → has_column columns a ≡ true → has_column columns b ≡ true → same_text a b ≡ false → nat_eq (place a) (place b) ≡ false
  apart a b one other differ = elim (cases_Bool (nat_eq (place a) (place b))) [
    | inl hit ↦
        let first = placed a one in
        let second = placed b other in
        let at : place a ≡ place b = (Decides-eqb (place a) (place b)).0 hit in
        let same : Some first.0 ≡ Some second.0 = sym first.1 ∙ ap (slice_get columns) at ∙ second.1 in
        let column : first.0 ≡ second.0 = cc in
        let name : a ≡ b = sym first.2 ∙ ap (λ (c : Column). c.name) column ∙ second.2 in
        let clash : true ≡ false = sym ((bytes_eq-Decides a b).1 name) ∙ differ in
        absurd (true≢false clash)
    | inr miss ↦ miss
  ]

  none_at : (a : List ℕ) → has_column columns a ≡ true → (names : List (List ℕ)) → list_all (has_column columns) names ≡ true → list_any (same_text a) names ≡ false
      → list_any (nat_eq (place a)) (places_named columns names) ≡ false
  none_at a one [] all none = refl
  none_at a one (b ∷ names) all none =
      let there = and-parts (has_column columns b) (list_all (has_column columns) names) all in
      let differ = or-parts (same_text a b) (list_any (same_text a) names) none in
      or-from (nat_eq (place a) (place b)) (list_any (nat_eq (place a)) (places_named columns names)) (apart a b one there.0 differ.0) (none_at a one names there.1 differ.1)

  none_twice : (names : List (List ℕ)) → list_all (has_column columns) names ≡ true → repeats same_text names ≡ false → repeats nat_eq (places_named columns names) ≡ false
  none_twice [] all none = refl
  none_twice (a ∷ names) all none =
      let there = and-parts (has_column columns a) (list_all (has_column columns) names) all in
      let differ = or-parts (list_any (same_text a) names) (repeats same_text names) none in
      or-from (list_any (nat_eq (place a)) (places_named columns names)) (repeats nat_eq (places_named columns names)) (none_at a there.0 names there.1 differ.0) (none_twice names there.1 differ.1)

  -- the names of a key give the places of one
  key_placed : (key : List (List ℕ)) → faults.is_key_named columns key ≡ true → key_places_test columns (places_named columns key) ≡ true
  key_placed key named =
      let parts = and-parts (list_all (has_column columns) key) (not (repeats same_text key)) named in
      let places : List ℕ = places_named columns key in
      let all : list_all (λ p. nat_lt p (length columns)) places ≡ true =
      list_all-map (λ p. nat_lt p (length columns)) place key ∙ list_all-weaker (has_column columns) (λ name. nat_lt (place name) (length columns)) within key parts.0 in
      and-from (list_all (λ p. nat_lt p (length columns)) places) (not (repeats nat_eq places)) all
      (ap not (none_twice key parts.0 (not-true (repeats same_text key) parts.1)))

-- ---- rows

-- what the rows of a table are in a package that has all of them
abbrev packed_from : ℕ → List (List Value) → List PackedRow
packed_from n rows = map all_of_row (numbered_from n rows)

abbrev number_of : PackedRow → ℕ
number_of row = row.number

rows_numbered : (next n : ℕ) (rows : List (List Value)) → n + length rows ≤ next → numbers_test number_of next (packed_from n rows) ≡ true
rows_numbered next n [] room = refl
rows_numbered next n (row ∷ []) room = and-from (nat_lt n next) true (lt-ltb n next (omega arith)) refl
rows_numbered next n (row ∷ more ∷ rows) room =
    let rest = and-parts _ _ (rows_numbered next (n + 1) (more ∷ rows) (omega arith)) in
    and-from _ _ (and-from _ _ (lt-ltb n (n + 1) (omega arith)) rest.0) (and-from _ _ (lt-ltb n next (omega arith)) rest.1)

values_back : (n : ℕ) (rows : List (List Value)) → map (λ (row : PackedRow). row.values) (packed_from n rows) ≡ rows
values_back n [] = refl
values_back n (row ∷ rows) = ap (λ rest. row ∷ rest) (values_back (n + 1) rows)

-- a test of the values of each row
values_packed : (test : List Value → Bool) (n : ℕ) (rows : List (List Value)) → list_all test rows ≡ true → list_all (λ (row : PackedRow). test row.values) (packed_from n rows) ≡ true
values_packed test n rows all = sym (list_all-map test (λ (row : PackedRow). row.values) (packed_from n rows)) ∙ ap (list_all test) (values_back n rows) ∙ all

rows_fit : (columns : List Column) (rows : List (List Value)) → list_all (each_value has_kind columns) rows ≡ true → list_all (each_value allows columns) rows ≡ true → list_all (λ row. length row == length columns) rows ≡ true
    → list_all (is_row columns) rows ≡ true
rows_fit columns [] kinds filled wide = refl
rows_fit columns (row ∷ rows) kinds filled wide =
    let k = and-parts _ _ kinds in
    let f = and-parts _ _ filled in
    let w = and-parts _ _ wide in
    and-from _ _ (and-from _ _ w.0 (fits-from (zip columns row) k.0 f.0)) (rows_fit columns rows k.1 f.1 w.1)

-- ---- tables

-- the foreign keys by names are foreign keys by places
foreign_met : (tables : List (List ℕ)) (columns : List Column) (foreigns : List DraftForeign)
    → list_all (faults.is_foreign_named tables columns) foreigns ≡ true
    → list_all (foreign_key_test columns) (map (faults.foreign_key columns) foreigns) ≡ true
foreign_met tables columns [] named = refl
foreign_met tables columns (f ∷ fs) named =
    let both = and-parts (faults.is_foreign_named tables columns f) (list_all (faults.is_foreign_named tables columns) fs) named in
    let columns_named = and-first (faults.is_key_named columns f.columns) (list_any (same_text f.parent) tables) both.0 in
    and-from (foreign_key_test columns (faults.foreign_key columns f)) (list_all (foreign_key_test columns) (map (faults.foreign_key columns) fs))
    (key_placed columns f.columns columns_named) (foreign_met tables columns fs both.1)

foreigns_met : (tables : List (List ℕ)) (draft : Draft) → list_all (faults.is_foreign_named tables draft.columns) draft.foreign ≡ true
    → nat_le (length draft.foreign) max_foreign ≡ true → foreign_test draft.columns (faults.foreign_keys draft) ≡ true
foreigns_met tables draft named few =
    and-from (foreign_count_test (faults.foreign_keys draft)) (list_all (foreign_key_test draft.columns) (faults.foreign_keys draft))
    (ap (λ (n : ℕ). nat_le n max_foreign) (length-map draft.foreign (faults.foreign_key draft.columns)) ∙ few)
    (foreign_met tables draft.columns draft.foreign named)

table_met : (tables : List (List ℕ)) (draft : Draft) → faults.is_table_named tables draft ≡ true → faults.is_table_within draft ≡ true → each_row_value has_kind draft ≡ true → each_row_value allows draft ≡ true → faults.is_table_keyed draft ≡ true → IsWide draft
    → table_rule (all_of_table (table_as draft)) ≡ true
table_met tables draft named limits typed filled keyed wide =
    let packed : PackedTable = all_of_table (table_as draft) in
    let refers = and-parts _ _ named in
    let names = and-parts _ _ refers.0 in
    let table_names = and-parts _ _ names.0 in
    let bounds = and-parts _ _ limits in
    let short = and-parts _ _ bounds.0 in
    let counts = and-parts _ _ (and-first _ _ short.0) in
    let key = and-parts _ _ keyed in
    let room : 0 + length draft.rows ≤ draft.next = at_zero (length draft.rows) draft.next (and-first _ _ bounds.1) in
    let schema : schema_test packed.schema ≡ true =
    and-from _ _ (and-from _ _ (and-from _ _ (and-from _ _ counts.0 table_names.1) (key_placed draft.columns draft.key names.1)) key.0)
    (foreigns_met tables draft refers.1 counts.1) in
    let rows : rows_rule packed ≡ true =
    and-from _ _ (and-from _ _ (rows_numbered draft.next 0 draft.rows room) (values_packed (is_row draft.columns) 0 draft.rows (rows_fit draft.columns draft.rows typed filled wide)))
    (values_packed (list_all is_short) 0 draft.rows short.1) in
    let unique : are_keys_unique (key_places draft) (map (λ (row : PackedRow). row.values) packed.rows) ≡ true = ap (are_keys_unique (key_places draft)) (values_back 0 draft.rows) ∙ key.1 in
    and-from _ _ (and-from _ _ (and-from _ _ table_names.0 schema) rows) unique
  where
    at_zero : (count next : ℕ) → nat_le count next ≡ true → 0 + count ≤ next
    at_zero count next fits = let less : count ≤ next = leb-true count next fits in omega arith

tables_met : (names : List (List ℕ)) (drafts : List Draft) → list_all (faults.is_table_named names) drafts ≡ true → list_all faults.is_table_within drafts ≡ true → list_all (each_row_value has_kind) drafts ≡ true → list_all (each_row_value allows) drafts ≡ true → list_all faults.is_table_keyed drafts ≡ true → AllByRecursion IsWide drafts
    → list_all table_rule (map all_of_table (map table_as drafts)) ≡ true
tables_met names [] named limits typed filled keyed wide = refl
tables_met names (draft ∷ drafts) named limits typed filled keyed wide =
    let n = and-parts _ _ named in
    let l = and-parts _ _ limits in
    let t = and-parts _ _ typed in
    let f = and-parts _ _ filled in
    let k = and-parts _ _ keyed in
    and-from _ _ (table_met names draft n.0 l.0 t.0 f.0 k.0 wide.0) (tables_met names drafts n.1 l.1 t.1 f.1 k.1 wide.1)

-- ---- start words, files and the script

start_met : (start : List (List ℕ)) → faults.is_start_named start ≡ true → faults.are_words_within start ≡ true → start_rule start ≡ true
start_met [] named limits = cc
start_met (word ∷ words) named limits =
    let both = and-parts _ _ limits in
    and-from _ _ (and-from _ _ named (one_less (length words) both.0)) both.1
  where
    one_less : (count : ℕ) → nat_le (suc count) max_start_words ≡ true → nat_le count 255 ≡ true
    one_less count fits = grind (arith, nat_tests)

abbrev is_small : File → Bool
is_small file = nat_le (length file.content) file_limit

is_good : (bytes : List ℕ) (o : Option (List Instr)) → script_fault bytes o ≡ None → is_some o ≡ true
is_good bytes None none = cc
is_good bytes (Some script) none = refl

script_found : (word : List ℕ) (files : List File) → start_fault_of (file_at word files) ≡ None → list_all is_small files ≡ true → is_script_file (find (λ f. bytes_eq word f.path) (map all_of_file files)) ≡ true
script_found word [] none small = cc
script_found word (file ∷ files) none small =
    let s = and-parts (is_small file) (list_all is_small files) small in
    elim (cases_Bool (bytes_eq word file.path)) [
      | inl hit ↦
          let fault : script_fault file.content (script_of file.content) ≡ None = rw hit at none in
          rw hit (and-from (is_small file) (is_some (script_of file.content)) s.0 (is_good file.content (script_of file.content) fault))
      | inr miss ↦ rw miss (script_found word files (rw miss at none) s.1)
    ]

script_met : (doc : Document) (start : List (List ℕ)) → start_fault_of (faults.start_file (record doc { start = start })) ≡ None → list_all is_small doc.files ≡ true → script_rule start (map all_of_file doc.files) ≡ true
script_met doc [] none small = cc
script_met doc (word ∷ words) none small = script_found word doc.files none small

-- ---- the document

document_met : (doc : Document) (w : World) → IsWorldOf doc w → IsDocument doc → IsTrue (world_rules (world_as doc))
document_met doc w passes form =
    let named = and-parts _ _ passes.named in
    let names = and-parts _ _ named.0 in
    let limits = and-parts _ _ passes.within in
    let parts = and-parts _ _ limits.0 in
    let bounds = and-parts _ _ parts.0 in
    let small = and-parts _ _ bounds.0 in
    let tables : List Table = map table_as doc.tables in
    let each = tables_met (faults.table_names doc) doc.tables names.1 limits.1 passes.typed passes.filled passes.keyed form.wide in
    let files_are : files_rule (map all_of_file doc.files) ≡ true =
    and-from _ _ (ap (λ (n : ℕ). nat_le n max_files) (length-map doc.files all_of_file) ∙ small.0)
    (and-from _ _ (list_all-map file_rule all_of_file doc.files ∙ list_all-both (λ (f : File). path_test f.path) is_small doc.files names.0 small.1) (sorted-under packed_file_precedes all_of_file doc.files ∙ form.files)) in
    let count : length (map all_of_table tables) ≡ length doc.tables = length-map tables all_of_table ∙ length-map doc.tables table_as in
    let tables_are : tables_rule (map all_of_table tables) ≡ true =
    and-from _ _ (ap (λ (n : ℕ). nat_le n max_tables) count ∙ parts.1)
    (and-from _ _ (and-from _ _ each (sorted-under packed_table_precedes all_of_table tables ∙ sorted-under table_precedes table_as doc.tables ∙ form.tables))
    (ap have_parents (all_of_catalog tables) ∙ and-first (have_parents (catalog_of tables)) (references_hold tables) passes.referring)) in
    and-from _ _ (and-from _ _ (and-from _ _ (start_met doc.start named.1 bounds.1) files_are) tables_are) (script_met doc doc.start passes.started small.1)

document_rules : (bytes : List ℕ) (w : World) → world_reading bytes ≡ Ok w → IsTrue (world_rules w)
document_rules bytes w is =
    let read = world_read bytes w is in
    subst (λ (w : World). IsTrue (world_rules w)) read.1.world_is (document_met read.0 w read.1 read.2)

document_valid : (bytes : List ℕ) (w : World) → world_reading bytes ≡ Ok w → TypedWorld w → ValidWorld w
document_valid bytes w is typed = record { typed = typed; ruled = document_rules bytes w is }

-- what a reading of the bytes gives is valid, where it is typed
pub read_valid : (bytes : List ℕ) (r : Result ParsedWorld WorldStop) → IfOk r (λ (p : ParsedWorld). world_reading bytes ≡ Ok p.world)
    → IfOk r (λ (p : ParsedWorld). TypedWorld p.world) → IfOk r (λ (p : ParsedWorld). ValidWorld p.world)
read_valid bytes (Ok p) is typed = document_valid bytes p.world is typed
read_valid bytes (Err stop) is typed = tt

pub read_runs : (bytes : List ℕ) (r : Result ParsedWorld WorldStop) → IfOk r (λ (p : ParsedWorld). world_reading bytes ≡ Ok p.world)
    → IfOk r (λ (p : ParsedWorld). TypedWorld p.world) → IfOk r (λ (p : ParsedWorld). CanRun p.world)
read_runs bytes (Ok p) is typed = valid_runs p.world (document_valid bytes p.world is typed)
read_runs bytes (Err stop) is typed = tt
