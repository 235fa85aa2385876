-- The rules that a world meets, one by one: its tables are a database, and it can be run.
use Rattle.std.proofs.Common.{◌≡◌, ℕ, ◌^◌, ◌<◌, List, [], ◌∷◌, length, map, refl, sym, ap, ◌∙◌, subst, Bool, true, arith}
use Rattle.std.specs.Prelude.{◌&&◌, nat_le, nat_lt, IsTrue, is_some}
use Rattle.std.specs.List.{list_all, AllByRecursion}
use Rattle.std.proofs.lemmas.Bool.{le-leb}
use Rattle.ldv_value.proofs.Booleans.{and-parts, and-from}
use Rattle.ldv_value.proofs.Lists.{list_all-map, map-map, sorted-under}
use Rattle.ldv_value.specs.FileState.{files_test}
use Rattle.ldv_value.specs.Limits.{max_next, max_tables}
use Rattle.ldv_value.specs.Sorted.{is_strictly_sorted}
use Rattle.sql_model.specs.ForeignKeys.{have_parents}
use Rattle.sql_model.specs.Scope.{catalog_of}
use Rattle.sql_model.specs.Tables.{is_row, is_short, numbers_test, are_keys_unique, is_valid_table, table_precedes, are_tables, is_database, is_described, tables_test}
use Rattle.sql_model.proofs.ValidTables.{table-from}
use Rattle.run_model.specs.Package.{own_file}
use Rattle.run_model.specs.Types.{Value, File, Table, TableRow, Package, PackedRow, PackedTable, World}
use Rattle.run_model.specs.TypedPackage.{TypedTable}
use Rattle.run_model.specs.ValidPackage.{packed_table_precedes, start_rule, files_rule, rows_rule, table_rule, packed_catalog, tables_rule, script_rule}
use Rattle.run_model.specs.ValidWorld.{all_of_file, all_of_row, all_of_table, all_of_world, rules_of_parts, world_rules, ValidWorld, CanRun}
use Rattle.run_model.proofs.OwnFiles.{own_files}
use Rattle.run_model.proofs.StartScripts.{first_script, own_script}

-- ---- the rules, one by one

pub record Ruled (p : Package) : Type 0 where
  pub start : start_rule p.start ≡ true
  pub files : files_rule p.files ≡ true
  pub tables : tables_rule p.tables ≡ true
  pub script : script_rule p.start p.files ≡ true

pub ruled_by : (p : Package) → IsTrue (rules_of_parts p) → Ruled p
ruled_by p met =
    let start : Bool = start_rule p.start in
    let files : Bool = files_rule p.files in
    let tables : Bool = tables_rule p.tables in
    let a = and-parts (start && files && tables) (script_rule p.start p.files) met in
    let b = and-parts (start && files) tables a.0 in
    let c = and-parts start files b.0 in
    record { start = c.0; files = c.1; tables = b.1; script = a.1 }

-- of one table: its rows are those of the packed table that has all of it
pub record RuledTable (t : Table) : Type 0 where
  pub described : is_described t ≡ true
  pub numbers : numbers_test (λ row. row.number) t.next t.rows ≡ true
  pub valid : nat_le t.next max_next ≡ true → is_valid_table t ≡ true

numbers_same : (next : ℕ) (rows : List TableRow) → numbers_test (λ (row : PackedRow). row.number) next (map all_of_row rows) ≡ numbers_test (λ (row : TableRow). row.number) next rows
numbers_same next rows =
    λ j. sorted-under (λ (a b : PackedRow). nat_lt a.number b.number) all_of_row rows j && list_all-map (λ (row : PackedRow). nat_lt row.number next) all_of_row rows j

pub ruled_table : (t : Table) → table_rule (all_of_table t) ≡ true → RuledTable t
ruled_table t met =
    let packed : PackedTable = all_of_table t in
    let fit : PackedRow → Bool = λ row. is_row t.schema.columns row.values in
    let numbers : Bool = numbers_test (λ (row : PackedRow). row.number) t.next packed.rows in
    let values : List (List Value) = map (λ (row : PackedRow). row.values) packed.rows in
    let a = and-parts (is_described t && rows_rule packed) (are_keys_unique t.schema.key values) met in
    let b = and-parts (is_described t) (rows_rule packed) a.0 in
    let c = and-parts (numbers && list_all fit packed.rows) (list_all (λ (row : PackedRow). list_all is_short row.values) packed.rows) b.1 in
    let d = and-parts numbers (list_all fit packed.rows) c.0 in
    record {
      described = b.0;
      numbers = sym (numbers_same t.next t.rows) ∙ d.0;
      valid = λ next. table-from t (record {
        next = next;
        numbers = sym (numbers_same t.next t.rows) ∙ d.0;
        rows = sym (list_all-map fit all_of_row t.rows) ∙ d.1;
        keys = ap (are_keys_unique t.schema.key) (sym (map-map (λ (row : PackedRow). row.values) all_of_row t.rows)) ∙ a.1;
      });
    }

-- of all tables
pub record RuledList (tables : List PackedTable) : Type 0 where
  pub few : nat_le (length tables) max_tables ≡ true
  pub each : list_all table_rule tables ≡ true
  pub sorted : is_strictly_sorted packed_table_precedes tables ≡ true
  pub parents : have_parents (packed_catalog tables) ≡ true

pub ruled_list : (tables : List PackedTable) → tables_rule tables ≡ true → RuledList tables
ruled_list tables met =
    let each : Bool = list_all table_rule tables in
    let sorted : Bool = is_strictly_sorted packed_table_precedes tables in
    let a = and-parts (nat_le (length tables) max_tables) (each && sorted && have_parents (packed_catalog tables)) met in
    let b = and-parts (each && sorted) (have_parents (packed_catalog tables)) a.1 in
    let c = and-parts each sorted b.0 in
    record { few = a.0; each = c.0; sorted = c.1; parents = b.1 }

-- the packed tables that have all of tables have their names and schemas
pub all_of_catalog : (ts : List Table) → packed_catalog (map all_of_table ts) ≡ catalog_of ts
all_of_catalog ts = λ j. record {
  names = map-map (λ (t : PackedTable). t.name) all_of_table ts j;
  schemas = map-map (λ (t : PackedTable). t.schema) all_of_table ts j;
}

-- ---- its tables are valid, and a database

-- the next number has four bytes
abbrev pub next_within : Table → Bool
next_within t = nat_le t.next max_next

within_u32 : (n : ℕ) → n < 2 ^ 32 → nat_le n max_next ≡ true
within_u32 n small = le-leb n max_next (omega (arith, small))

nexts_typed : (ts : List Table) → AllByRecursion TypedTable (map all_of_table ts) → list_all next_within ts ≡ true
nexts_typed [] typed = refl
nexts_typed (t ∷ ts) typed = and-from (next_within t) (list_all next_within ts) (within_u32 t.next typed.0.1.1.0) (nexts_typed ts typed.1)

tables_valid : (ts : List Table) → list_all next_within ts ≡ true → list_all table_rule (map all_of_table ts) ≡ true → list_all is_valid_table ts ≡ true
tables_valid [] nexts rules = refl
tables_valid (t ∷ ts) nexts rules =
    let n = and-parts (next_within t) (list_all next_within ts) nexts in
    let r = and-parts (table_rule (all_of_table t)) (list_all table_rule (map all_of_table ts)) rules in
    let one : RuledTable t = ruled_table t r.0 in
    and-from (is_valid_table t) (list_all is_valid_table ts) (one.valid n.0) (tables_valid ts n.1 r.1)

tables_described : (ts : List Table) → list_all table_rule (map all_of_table ts) ≡ true → list_all is_described ts ≡ true
tables_described [] rules = refl
tables_described (t ∷ ts) rules =
    let r = and-parts (table_rule (all_of_table t)) (list_all table_rule (map all_of_table ts)) rules in
    and-from (is_described t) (list_all is_described ts) (ruled_table t r.0).described (tables_described ts r.1)

pub ruled_tables : (w : World) → IsTrue (world_rules w) → list_all next_within w.tables ≡ true → tables_test w.tables ≡ true
ruled_tables w met nexts =
    let ruled : Ruled (all_of_world w) = ruled_by (all_of_world w) met in
    let list : RuledList (map all_of_table w.tables) = ruled_list (map all_of_table w.tables) ruled.tables in
    let valid : list_all is_valid_table w.tables ≡ true = tables_valid w.tables nexts list.each in
    let sorted : is_strictly_sorted table_precedes w.tables ≡ true =
    sym (sorted-under packed_table_precedes all_of_table w.tables) ∙ list.sorted in
    let parents : have_parents (catalog_of w.tables) ≡ true = ap have_parents (sym (all_of_catalog w.tables)) ∙ list.parents in
    and-from (is_database w.tables) (list_all is_described w.tables)
    (and-from (are_tables w.tables) (have_parents (catalog_of w.tables))
    (and-from (list_all is_valid_table w.tables) (is_strictly_sorted table_precedes w.tables) valid sorted) parents)
    (tables_described w.tables list.each)

pub world_tables : (w : World) → ValidWorld w → tables_test w.tables ≡ true
world_tables w valid = ruled_tables w valid.ruled (nexts_typed w.tables valid.typed.1.1.1.1.0)

-- ---- a world that meets the rules can be run

own_all : (files : List File) → map own_file (map all_of_file files) ≡ files
own_all [] = refl
own_all (file ∷ files) = ap (λ (l : List File). file ∷ l) (own_all files)

pub valid_runs : (w : World) → ValidWorld w → CanRun w
valid_runs w valid =
    let ruled : Ruled (all_of_world w) = ruled_by (all_of_world w) valid.ruled in
    record {
      script = subst (λ (files : List File). is_some (first_script w.start files) ≡ true) (own_all w.files)
          (own_script w.start (map all_of_file w.files) ruled.script);
      files = subst (λ (files : List File). files_test files ≡ true) (own_all w.files)
          (own_files (map all_of_file w.files) ruled.files);
      tables = world_tables w valid;
    }
